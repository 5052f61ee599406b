pub mod Faults
pub mod Parses
pub mod Steps
pub mod Opened
pub mod Repeats
pub mod Windows
