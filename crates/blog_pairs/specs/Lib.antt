pub mod Spelled
pub mod Places
pub mod Keys
pub mod Tables
pub mod Steps
pub mod code
