-- What only contracts of code need: its structs as values.
pub mod MergedView
pub mod GatheringView
