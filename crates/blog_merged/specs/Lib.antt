pub mod Nets
pub mod code
