pub mod Logs
pub mod Surroundings
pub mod Refused
pub mod Written
pub mod Lines
pub mod Versions
pub mod MapPositions
