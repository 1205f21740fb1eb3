pub mod Masks
pub mod Cells
pub mod OtherBits
