pub mod Appending
pub mod InTurn
pub mod NetTexts
pub mod RowChanges
