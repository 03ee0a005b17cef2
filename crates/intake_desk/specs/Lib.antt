pub mod Words
pub mod Intake
pub mod Exit
pub mod Input
pub mod Progress
pub mod Due
