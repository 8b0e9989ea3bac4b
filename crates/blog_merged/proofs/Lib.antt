pub mod Nets
pub mod Places
