pub mod Blocks
pub mod Fits
pub mod Passed
pub mod Conducting
