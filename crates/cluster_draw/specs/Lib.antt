pub mod Barred
pub mod Placings
