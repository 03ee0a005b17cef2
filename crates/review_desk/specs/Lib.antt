pub mod Desk
pub mod Line
