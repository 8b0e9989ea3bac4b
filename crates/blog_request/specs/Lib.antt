pub mod Ids
pub mod Passing
pub mod Wanted
pub mod code
