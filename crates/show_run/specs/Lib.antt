pub mod Reported
pub mod Shown
pub mod code
