pub mod Journal
pub mod Limits
pub mod Log
pub mod Scan
pub mod Start
