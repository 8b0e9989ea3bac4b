-- What only contracts of code need: its structs as values.
pub mod ColumnsView
pub mod PairsView
pub mod Placed
pub mod TableView
pub mod EventRows
pub mod ChangedView
