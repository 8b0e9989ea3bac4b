-- What only contracts of code need: its structs as values.
pub mod RankingView
pub mod ReportView
pub mod SeededView
pub mod TablesView
pub mod TimelineView
