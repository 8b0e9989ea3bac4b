-- What only contracts of code need: its structs as values, and rows by their bytes.
pub mod NetView
pub mod PutView
pub mod RowBytes
