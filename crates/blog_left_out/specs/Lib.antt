pub mod LeftOut
pub mod code
