pub mod Sound
pub mod Codes
pub mod Covering
pub mod Walking
pub mod Totals
pub mod Givens
