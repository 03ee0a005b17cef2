pub mod Slip
pub mod Form
pub mod Counted
pub mod Written
pub mod Limits
pub mod Places
