pub mod Held
pub mod PairList
pub mod Places
pub mod Roll
pub mod Rows
