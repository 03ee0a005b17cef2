pub mod Disk
pub mod Images
pub mod Replay
pub mod Laws
