pub mod Cuts
pub mod Faults
pub mod FormulaNames
pub mod Lines
pub mod Owns
pub mod Queries
pub mod SheetFaults
pub mod Sheets
