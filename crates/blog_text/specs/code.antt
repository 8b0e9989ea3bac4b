-- What only contracts of code need: its structs as values, and running states.
pub mod Counted
pub mod JsonBytes
pub mod MarksView
pub mod Plain
