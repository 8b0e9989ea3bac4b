pub mod Becomes
pub mod Turns
