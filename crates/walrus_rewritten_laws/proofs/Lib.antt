mod Planned
mod Bytes
mod Rewritten
mod Files
mod Segments
