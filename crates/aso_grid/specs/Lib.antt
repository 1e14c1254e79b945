pub mod Grids
pub mod Lines
pub mod Places
pub mod Plans
