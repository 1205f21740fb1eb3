pub mod Filled
pub mod Firsts
pub mod Searches
pub mod MarkSteps
pub mod Pairing
pub mod LeftOver
pub mod Breaches
pub mod Shape
