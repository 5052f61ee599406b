pub mod Codes
pub mod Edges
pub mod Examples
pub mod Rows
pub mod Shapes
