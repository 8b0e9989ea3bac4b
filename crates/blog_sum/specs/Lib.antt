pub mod Crc
pub mod Sums
pub mod Plain
pub mod code
