pub mod Rows
pub mod Buffers
pub mod Past
