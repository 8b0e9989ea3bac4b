pub mod Left
pub mod Moving
pub mod Handing
pub mod Tails
pub mod Opened
pub mod Placing
pub mod Accepted
pub mod LogText
pub mod Plained
mod HandedLog
pub mod WholeReading
mod PlainLog
mod Standing
mod HandedPlaces
mod Unmoved
pub mod Checks
pub mod WhatBecomes
pub mod Ending
pub mod Puts
pub mod Appending
mod Ages
