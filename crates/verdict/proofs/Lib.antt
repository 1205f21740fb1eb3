pub mod NullTables
pub mod Kept
pub mod Balance
pub mod Ranges
pub mod Entries
pub mod Firsts
pub mod Refused
pub mod Loading
