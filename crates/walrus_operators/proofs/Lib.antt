pub mod Appends
pub mod Keeps
pub mod Again
mod Moves
mod Unknown
mod Known
