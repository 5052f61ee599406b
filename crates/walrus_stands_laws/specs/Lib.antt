pub mod Placed
pub mod Declared
pub mod Types
pub mod Listed
pub mod Stands
