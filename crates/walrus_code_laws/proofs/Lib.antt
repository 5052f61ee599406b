mod Runs
mod Places
pub mod Texts
pub mod Bodies
pub mod Spellings
mod Parts
mod Emissions
mod Short
