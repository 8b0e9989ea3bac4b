-- What only contracts of code need: its structs as values, and running states.
pub mod Greedy
pub mod Marks
pub mod CutView
pub mod CutWritten
pub mod Sizes
