pub mod Cells
pub mod Named
pub mod Grid
pub mod Drafts
