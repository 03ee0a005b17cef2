pub mod Six
pub mod Tally
pub mod Totals
