pub mod ImageLemmas
pub mod StepLemmas
pub mod UntoldLemmas
