pub mod Adding
pub mod Rising
pub mod Changes
pub mod LineLemmas
pub mod SumLemmas
mod Examples
