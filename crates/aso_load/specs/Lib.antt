pub mod Csv
pub mod Fields
pub mod Leaves
pub mod Records
pub mod Gathering
