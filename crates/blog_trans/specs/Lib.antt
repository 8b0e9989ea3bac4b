pub mod Selection
pub mod Places
pub mod Acceptance
pub mod Groups
pub mod Changes
pub mod PlacedFacts
pub mod Shown
pub mod code
