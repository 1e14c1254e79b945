pub mod Axes
pub mod Views
pub mod Ranges
pub mod Layouts
pub mod Leaves
