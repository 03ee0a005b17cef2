mod Always
mod Contents
pub mod Counting
mod Room
pub mod Told
