pub mod Picks
pub mod Asked
