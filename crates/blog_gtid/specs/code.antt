-- What only contracts of code need: its structs as values, and what a reader found.
pub mod Found
