pub mod Arena
pub mod Dense
pub mod Laws
pub mod Lends
pub mod Set
