-- What only contracts of code need: its structs as values, and running states.
pub mod InTurn
pub mod KeptView
pub mod LeftOutView
pub mod PutView
pub mod StepView
