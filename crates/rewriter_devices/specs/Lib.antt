pub mod Input
pub mod Lines
pub mod Devices
pub mod MemorySourceState
pub mod MemorySinkState
