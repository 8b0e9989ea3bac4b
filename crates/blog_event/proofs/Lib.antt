pub mod Framing
pub mod Headers
pub mod FormatCode
pub mod Openings
pub mod Opened
pub mod Going
pub mod Items
