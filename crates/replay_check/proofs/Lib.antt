pub mod AnswerLemmas
pub mod FilledLemmas
pub mod RerunLemmas
pub mod RowLemmas
pub mod VerdictLemmas
pub mod SaidLemmas
