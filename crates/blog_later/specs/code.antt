-- What only contracts of code need: its structs as values, and parts of lists.
pub mod Counted
pub mod EventChanges
pub mod LeavingView
pub mod LookedView
