pub mod Answers
pub mod Covers
pub mod Kept
