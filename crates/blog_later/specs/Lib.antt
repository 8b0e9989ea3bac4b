pub mod Prints
pub mod Among
pub mod Later
pub mod Laws
pub mod code
