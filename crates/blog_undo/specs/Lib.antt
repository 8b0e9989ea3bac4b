pub mod Mixed
pub mod Laws
pub mod Part
pub mod ByRows
