mod Entering
pub mod Labels
pub mod Marking
mod Lefts
mod Goings
mod Nests
mod Texts
mod Walked
