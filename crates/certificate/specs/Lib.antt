pub mod Longest
pub mod Deepest
pub mod Scans
