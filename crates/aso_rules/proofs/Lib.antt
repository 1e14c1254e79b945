pub mod Founds
pub mod Examples
