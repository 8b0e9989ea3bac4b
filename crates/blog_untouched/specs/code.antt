-- What only contracts of code need: its structs as values.
pub mod MarksView
pub mod RecordView
pub mod SeededView
pub mod TakersView
