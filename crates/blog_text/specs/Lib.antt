pub mod Escapes
pub mod JsonStrings
pub mod Laws
pub mod Tables
pub mod code
