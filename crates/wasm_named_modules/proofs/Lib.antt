pub mod Entries
pub mod Here
pub mod Last
pub mod Reading
