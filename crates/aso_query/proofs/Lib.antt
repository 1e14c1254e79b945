pub mod Takings
pub mod Sames
pub mod Wholes
