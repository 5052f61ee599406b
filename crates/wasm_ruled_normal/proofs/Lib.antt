pub mod Tests
pub mod Picks
mod Trees
mod Picked
