-- What only contracts of code need: its structs as values, and running states.
pub mod Left
pub mod Folding
