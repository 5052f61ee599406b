pub mod Writes
pub mod Names
pub mod Producers
pub mod Sections
