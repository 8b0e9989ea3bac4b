mod AnyNamed
mod Anys
mod Sets
pub mod About
pub mod Found
pub mod Names
pub mod Places
