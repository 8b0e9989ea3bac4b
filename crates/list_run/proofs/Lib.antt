mod Alone
pub mod Going
mod One
