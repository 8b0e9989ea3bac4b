pub mod Ways
pub mod Notes
pub mod FileIds
