mod Asked
mod Counted
mod InTurn
pub mod Joining
mod Judged
mod Kept
mod LastEvent
mod Leaving
mod MergedLog
mod Merging
mod LookedAt
mod Names
mod PartLog
mod Recorded
mod Stages
mod Tracking
