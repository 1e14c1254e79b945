pub mod State
pub mod Lines
pub mod Machine
pub mod CellSteps
pub mod Verdicts
pub mod Texts
