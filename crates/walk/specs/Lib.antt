pub mod Joins
pub mod Walked
pub mod Stages
pub mod Units
pub mod UnitTexts
