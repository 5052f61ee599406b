pub mod AgainLemmas
pub mod AlikeLemmas
pub mod CarriedLemmas
pub mod Dense
pub mod EditedLemmas
pub mod Faults
pub mod KindOrder
pub mod Shape
pub mod ShapeRun
pub mod Sound
pub mod Steady
pub mod Straight
pub mod TurnLemmas
pub mod Written
pub mod Deleted
pub mod EditLemmas
pub mod Grown
pub mod LocalLemmas
pub mod Marked
pub mod OrdinaryLemmas
mod Exchange
mod Filled
mod Follows
mod Kept
mod Renamed
mod Starts
mod SwapLemmas
mod Turned
