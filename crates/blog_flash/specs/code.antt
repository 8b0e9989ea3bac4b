-- What only contracts of code need: its structs as values, and running states.
pub mod LaidOut
pub mod PrintedRows
pub mod WrittenView
pub mod Skipping
pub mod WrittenGroupsView
pub mod Measured
