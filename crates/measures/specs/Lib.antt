pub mod Models
pub mod Lawful
pub mod Meaning
