pub mod Examples
pub mod Rows
