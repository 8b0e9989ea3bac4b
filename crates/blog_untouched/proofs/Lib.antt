pub mod PartsBy
pub mod Taking
pub mod Marks
pub mod First
pub mod Recording
pub mod Putting
pub mod PutRecorded
pub mod OfSteps
