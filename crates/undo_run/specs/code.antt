-- What only contracts of code need: its structs as values, and what comes of each step of a run.
pub mod SinceView
pub mod Steps
pub mod Leaves
pub mod Merges
pub mod Tracks
pub mod NamesView
pub mod Reading
