pub mod Json
pub mod Written
pub mod Rules
pub mod Answers
