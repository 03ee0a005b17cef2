pub mod End
pub mod Shortage
pub mod Text
