pub mod EndLemmas
pub mod PairLemmas
pub mod ShortageLemmas
pub mod TextLemmas
