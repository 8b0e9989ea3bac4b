pub mod Opening
pub mod PlacedParts
pub mod Tables
mod CountsCode
pub mod Growing
pub mod ProgressSteps
pub mod ProgressRows
pub mod ProgressState
pub mod StatementCuts
pub mod ProgressGroups
pub mod KeptRows
pub mod ProgressFirsts
pub mod ProgressMaps
pub mod Columns
pub mod EntriesKept
pub mod TableNumbers
pub mod CheckingStatement
pub mod CheckingMaps
pub mod CheckingLayouts
pub mod CheckingRows
pub mod Checking
mod BuilderCode
pub mod PlacedFacts
pub mod ProgressAccepted
pub mod Sums
pub mod Apart
pub mod Shown
mod BuilderSteps
mod WalkCode
pub mod EntriesFound
pub mod IndexTables
pub mod IndexFacts
mod IndexCode
pub mod IndexRows
pub mod RowsFields
pub mod Turns
pub mod Asking
mod Largest
