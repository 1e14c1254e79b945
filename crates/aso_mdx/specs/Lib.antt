pub mod Answer
pub mod Grammar
pub mod Reading
pub mod Shapes
