pub mod AmountLemmas
pub mod ByteLemmas
pub mod Exact
pub mod Further
pub mod LineLemmas
pub mod Examples
