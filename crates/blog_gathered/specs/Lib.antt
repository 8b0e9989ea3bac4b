pub mod Gathered
pub mod code
