-- What only contracts of code need: its structs as values.
pub mod NamedView
pub mod ReasonsView
pub mod SeededView
pub mod TablesView
pub mod UnitsView
