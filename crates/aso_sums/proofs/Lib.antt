pub mod Asking
pub mod Placing
pub mod Summing
pub mod Named
