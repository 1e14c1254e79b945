pub mod Faults
pub mod Owns
pub mod Texts
pub mod Answers
