pub mod Told
pub mod Positions
