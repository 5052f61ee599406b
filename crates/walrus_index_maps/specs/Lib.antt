pub mod Maps
pub mod Views
pub mod Runs
pub mod Texts
