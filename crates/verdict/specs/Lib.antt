pub mod Sound
pub mod Depths
pub mod Units
pub mod Judged
pub mod Loads
