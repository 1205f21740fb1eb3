pub mod Moved
pub mod Depths
pub mod Scanning
pub mod Back
