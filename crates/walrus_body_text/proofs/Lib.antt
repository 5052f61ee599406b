mod Pushes
mod Lefts
mod Parts
pub mod Tests
mod Deep
pub mod Steps
mod Folds
pub mod Runs
