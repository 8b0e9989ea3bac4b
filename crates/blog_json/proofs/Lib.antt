pub mod Added
pub mod Base64Lines
pub mod Keeping
pub mod Valued
