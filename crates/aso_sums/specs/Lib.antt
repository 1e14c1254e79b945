pub mod Stored
pub mod Asking
pub mod Summing
pub mod Rows
