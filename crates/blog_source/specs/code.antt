-- What only contracts of code need: its structs as values, and running states.
pub mod Walk
pub mod Fronts
pub mod SourceView
pub mod Appending
