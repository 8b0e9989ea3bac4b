pub mod Near
pub mod Reasons
pub mod code
