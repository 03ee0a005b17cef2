pub mod Audit
pub mod Check
pub mod Migrate
pub mod Replay
pub mod Rerun
pub mod Rows
pub mod Said
