pub mod Arguments
pub mod Cutting
pub mod Held
pub mod Printing
pub mod Reading
pub mod Strict
