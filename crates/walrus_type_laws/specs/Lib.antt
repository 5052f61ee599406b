pub mod Alike
pub mod Edited
pub mod Rounds
pub mod Edits
pub mod Locals
pub mod Ordinary
pub mod Swap
