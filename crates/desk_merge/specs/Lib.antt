pub mod Joined
pub mod Desk
pub mod Entry
pub mod Held
pub mod Scan
pub mod Merge
pub mod Put
pub mod Reading
