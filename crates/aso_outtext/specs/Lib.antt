pub mod Drafts
pub mod Tables
pub mod Answers
pub mod Texts
