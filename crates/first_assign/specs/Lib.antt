pub mod FirstPlaces
pub mod First
pub mod Members
pub mod Settling
