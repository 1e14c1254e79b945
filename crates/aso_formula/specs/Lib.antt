pub mod Answer
pub mod Places
pub mod Formula
pub mod Found
pub mod Printing
pub mod Reading
