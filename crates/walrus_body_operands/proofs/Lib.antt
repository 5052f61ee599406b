mod Told
mod Counts
mod Gathering
mod Tests
mod Pairing
mod Table
mod Finish
pub mod Last
