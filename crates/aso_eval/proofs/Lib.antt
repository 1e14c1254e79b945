pub mod CellLemmas
pub mod Wholes
