pub mod Places
pub mod Executions
pub mod Lookups
pub mod FirstLines
pub mod Points
pub mod Passing
