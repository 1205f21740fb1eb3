pub mod Decoding
pub mod Units
