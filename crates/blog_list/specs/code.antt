-- What only contracts of code need: its structs as values, and running states.
pub mod Held
pub mod Json
pub mod Ranked
pub mod Told
pub mod Totals
pub mod WriterView
