pub mod WaitingLemmas
pub mod ToldLemmas
pub mod KeptLemmas
pub mod InputLemmas
pub mod MomentLemmas
pub mod ProgressLemmas
pub mod DueLemmas
pub mod CallLemmas
