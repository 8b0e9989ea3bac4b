-- What only contracts of code need: its structs as values, and running states.
pub mod Reading
pub mod Going
pub mod LogView
