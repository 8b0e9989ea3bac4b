pub mod Pairs
pub mod Merge
pub mod Laws
pub mod Columns
pub mod Touching
