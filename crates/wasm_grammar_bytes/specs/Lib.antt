pub mod Values
pub mod Bodies
pub mod Runs
pub mod Maximal
pub mod Shortest
pub mod Laws
