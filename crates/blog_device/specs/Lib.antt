pub mod Watched
pub mod Devices
