pub mod Sheets
pub mod Texts
pub mod Faults
pub mod Entries
