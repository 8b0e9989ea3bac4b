pub mod Adding
pub mod AllRows
pub mod Naming
