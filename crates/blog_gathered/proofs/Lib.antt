pub mod Forming
pub mod Gathering
