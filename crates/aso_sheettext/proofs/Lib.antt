pub mod Ascii
pub mod Codes
mod Examples
pub mod Outlines
pub mod Parts
pub mod Pieces
pub mod Runs
pub mod Sheets
