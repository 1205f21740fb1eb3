pub mod Held
pub mod Refusals
pub mod Parts
pub mod Reading
pub mod Whole
