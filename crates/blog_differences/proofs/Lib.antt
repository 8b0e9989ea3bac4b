pub mod Outside
pub mod Adding
