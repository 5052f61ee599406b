pub mod Made
pub mod Planned
pub mod Bytes
pub mod Rewritten
pub mod Files
