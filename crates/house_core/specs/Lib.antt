pub mod Ends
pub mod House
pub mod Standing
pub mod Stops
