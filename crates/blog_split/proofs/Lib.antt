mod Turned
mod Pieces
mod Cutting
mod Small
pub mod Greedy
mod MapIds
mod Marks
mod Flags
mod Adding
mod Measuring
mod Bounds
mod Splitting
mod CutWritten
mod Going
