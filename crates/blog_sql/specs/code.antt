-- What only contracts of code need: running states.
pub mod Adding
pub mod FullLine
pub mod Views
pub mod Walk
