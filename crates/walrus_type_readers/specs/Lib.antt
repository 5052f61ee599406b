pub mod Placings
pub mod Groups
