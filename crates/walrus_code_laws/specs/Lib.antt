pub mod Numbered
pub mod Spelled
pub mod Bodies
pub mod Code
pub mod Parts
pub mod Emissions
pub mod Short
