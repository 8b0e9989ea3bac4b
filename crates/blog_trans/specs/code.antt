-- What only contracts of code need: its structs as values, and running states.
pub mod SeededHash
pub mod TableIdHash
pub mod TableNameHash
pub mod Progress
pub mod Entries
pub mod ListsView
pub mod TablesView
pub mod StatementMaps
pub mod CheckerView
pub mod Few
pub mod CountsView
pub mod BuilderView
pub mod WalkView
pub mod IndexView
pub mod InTurn
pub mod GroupEventsView
