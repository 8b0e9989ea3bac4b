pub mod Keeping
pub mod Forming
pub mod InTurn
pub mod Putting
pub mod RowsLeft
pub mod Stepping
