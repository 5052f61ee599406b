pub mod Placed
pub mod Written
pub mod Read
pub mod Kept
