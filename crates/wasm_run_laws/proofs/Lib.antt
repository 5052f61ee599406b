pub mod Images
pub mod Alike
pub mod Nested
pub mod Entries
pub mod Bodies
pub mod Modules
