pub mod DraftLemmas
pub mod Given
