mod Labels
pub mod Outs
mod Refused
mod Behind
mod Straight
mod Steps
mod Runs
mod Fronts
