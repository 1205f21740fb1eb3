pub mod Points
pub mod States
pub mod Called
pub mod Calls
pub mod Conducted
