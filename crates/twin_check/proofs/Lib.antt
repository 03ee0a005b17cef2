pub mod AgreeLemmas
pub mod AlikeLemmas
pub mod OwnLemmas
pub mod RowLemmas
pub mod RunLemmas
pub mod TextLemmas
