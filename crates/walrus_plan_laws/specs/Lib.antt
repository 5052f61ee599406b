pub mod Plans
pub mod Emissions
pub mod Written
pub mod Behind
