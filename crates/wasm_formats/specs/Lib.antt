pub mod Bytes
pub mod Files
pub mod Formats
pub mod Joined
pub mod Led
pub mod Lists
pub mod Parts
pub mod Stops
pub mod Texts
pub mod Wholes
pub mod Until
-- Passed on to crates above, which then list this one alone.
pub use Rattle.wasm_reader.specs.wasm_features as wasm_features
pub use Rattle.wasm_reader.specs as wasm_reader
