pub mod OutcomeLemmas
pub mod OutcomePlaceLemmas
pub mod OutcomeStepLemmas
