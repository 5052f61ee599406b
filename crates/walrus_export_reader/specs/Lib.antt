pub mod Repeats
pub mod Keys
pub mod Candidates
pub mod Verdicts
