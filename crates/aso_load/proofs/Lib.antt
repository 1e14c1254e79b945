pub mod Left
pub mod Steps
pub mod Examples
pub mod Standing
