pub mod Cells
pub mod Html
pub mod Ranking
pub mod Said
pub mod Shell
pub mod ShellReads
pub mod Sums
pub mod code
