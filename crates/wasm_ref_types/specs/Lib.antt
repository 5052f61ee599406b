pub mod Indices
pub mod Heaps
pub mod Reference
pub mod Digits
pub mod Packed
pub mod Orders
pub mod Constants
pub mod Values
pub mod Texts
pub mod Subtypes
pub mod ReadTypes
pub mod Begins
pub mod TypesFinal
pub mod TypeSpellings
pub mod TypesTaken
-- Passed on to crates above, which then list this one alone.
pub use Rattle.wasm_reader.specs.wasm_features as wasm_features
pub use Rattle.wasm_reader.specs as wasm_reader
