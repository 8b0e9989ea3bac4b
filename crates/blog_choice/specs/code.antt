-- What only contracts of code need: its structs as values.
pub mod ChosenNaming
pub mod ChosenView
pub mod NameSetView
pub mod Sets
pub mod Views
