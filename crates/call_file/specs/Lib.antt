pub mod Keys
pub mod Register
pub mod Records
pub mod Opening
pub mod Pass
