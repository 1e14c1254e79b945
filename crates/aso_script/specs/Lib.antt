pub mod Script
pub mod Lines
pub mod Reading
pub mod Read
