pub mod Net
pub mod code
