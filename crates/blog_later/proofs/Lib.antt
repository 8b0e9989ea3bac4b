pub mod Counting
pub mod EventChanges
mod OtherTables
pub mod Seen
pub mod Untouched
pub mod Numbered
pub mod Among
pub mod Amid
