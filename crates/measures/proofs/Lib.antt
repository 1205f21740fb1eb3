pub mod Longest
pub mod Ranges
pub mod Pairs
pub mod Surveys
pub mod Sets
