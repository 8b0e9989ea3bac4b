pub mod Rows
pub mod TakingBack
pub mod Parts
pub mod OnePass
