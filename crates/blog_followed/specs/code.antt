-- What only contracts of code need: its structs as values.
pub mod KeptView
pub mod FollowedView
