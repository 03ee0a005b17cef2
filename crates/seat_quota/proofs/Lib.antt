pub mod ExchangeLemmas
pub mod GivenLemmas
pub mod SixLemmas
pub mod TallyLemmas
pub mod TotalLemmas
