pub mod Faults
pub mod Files
pub mod Named
pub mod NamedModules
pub mod Orders
pub mod Picks
pub mod Read
pub mod Stopped
