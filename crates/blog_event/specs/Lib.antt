pub mod Fault
pub mod Event
pub mod File
pub mod Format
pub mod Writing
pub mod Opening
pub mod Items
pub mod code
