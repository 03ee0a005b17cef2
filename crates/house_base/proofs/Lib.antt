pub mod AmongLemmas
pub mod Cells
pub mod Digits
pub mod Distances
pub mod InOrderLemmas
pub mod Names
pub mod RowLemmas
pub mod Settings
mod TableLemmas
mod ThreePersons
