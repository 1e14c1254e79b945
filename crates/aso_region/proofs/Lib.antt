pub mod ChosenLemmas
pub mod CoverLemmas
pub mod HighLemmas
pub mod TableLemmas
