pub mod Fronts
pub mod TrailingOnes
pub mod Spellings
pub mod Bodies
pub mod Lengths
