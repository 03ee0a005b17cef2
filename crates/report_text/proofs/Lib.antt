mod FilterLemmas
mod OwnerLemmas
mod PairLineLemmas
mod RowLineLemmas
