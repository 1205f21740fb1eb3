pub mod OneBit
pub mod Views
