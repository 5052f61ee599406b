mod Agree
pub mod Carried
mod Closed
mod Emitted
mod Handlers
mod Open
mod Parts
pub mod Picked
mod Served
mod Written
