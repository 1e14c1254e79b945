pub mod Record
pub mod Faults
pub mod Image
pub mod Opening
pub mod View
