pub mod Examples
pub mod PlanLemmas
pub mod SizeLemmas
pub mod LineLemmas
pub mod Turns
