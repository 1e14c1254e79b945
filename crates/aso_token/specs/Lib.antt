pub mod Cutting
pub mod Lang
pub mod Lexing
pub mod Marks
pub mod Numerals
pub mod Reads
pub mod Texts
pub mod Words
