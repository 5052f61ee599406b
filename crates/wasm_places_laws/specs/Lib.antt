pub mod Begun
pub mod Bodies
pub mod Pairs
pub mod Places
pub mod Read
