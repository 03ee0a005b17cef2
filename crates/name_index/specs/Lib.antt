pub mod Hints
pub mod Index
