pub mod Shapes
pub mod Segments
