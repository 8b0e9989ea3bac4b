pub mod Growing
mod JsonBytes
mod JsonLanes
mod Largest
mod Marking
mod Plain
