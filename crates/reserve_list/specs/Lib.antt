pub mod Reserve
pub mod Board
pub mod Leaving
pub mod Held
pub mod Line
pub mod Laws
pub mod Seven
pub mod Told
