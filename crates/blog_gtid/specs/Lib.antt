pub mod Integers
pub mod Tagged
pub mod code
