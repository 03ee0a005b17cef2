pub mod CutLemmas
