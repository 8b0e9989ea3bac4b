pub mod Changed
pub mod Sql
pub mod OfIndex
pub mod Laws
pub mod ReadBack
pub mod code
