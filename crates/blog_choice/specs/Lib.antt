pub mod Choice
pub mod Naming
pub mod Words
pub mod code
