-- What only contracts of code need: its structs as values, and running states.
pub mod StorageView
pub mod ImageView
pub mod LayoutReading
pub mod LayoutView
pub mod RowsEventView
pub mod RowsView
pub mod ValuesView
pub mod StoredLayoutView
pub mod StoredValuesView
pub mod PositionView
pub mod SameNullsView
pub mod ReversingView
