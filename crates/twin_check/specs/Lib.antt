pub mod Agree
pub mod Half
pub mod Rows
pub mod Run
pub mod Text
