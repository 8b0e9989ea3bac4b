pub mod Listed
pub mod code
