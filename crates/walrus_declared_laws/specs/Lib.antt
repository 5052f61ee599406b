pub mod Added
pub mod Retyped
pub mod Agreed
pub mod Emitted
pub mod Wanted
pub mod Declared
pub mod Standing
