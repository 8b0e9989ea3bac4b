pub mod Cuts
pub mod Laws
pub mod Putting
pub mod Writing
pub mod code
