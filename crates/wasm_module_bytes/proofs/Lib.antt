pub mod Bodies
pub mod Chunks
pub mod Due
pub mod Modules
pub mod Rules
pub mod Sections
