pub mod ByPrints
pub mod Laws
pub mod Rows
pub mod Recorded
pub mod Steps
pub mod code
