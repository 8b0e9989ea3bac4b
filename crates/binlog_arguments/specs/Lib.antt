pub mod Request
pub mod Zones
