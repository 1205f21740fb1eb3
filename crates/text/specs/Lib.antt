pub mod Tables
pub mod Finds
pub mod Faults
pub mod Marks
pub mod Placed
pub mod Mechanisms
pub mod Verdicts
pub mod Views
