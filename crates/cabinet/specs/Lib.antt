pub mod Ports
pub mod Rows
pub mod Meanings
