pub mod Fields
pub mod Forms
pub mod Entities
pub mod Readings
pub mod Finals
pub mod Spellings
pub mod Taken
pub mod TypesTaken
pub mod Written
pub mod Remap
-- Passed on to crates above, which then list this one alone.
pub use Rattle.wasm_ref_types.specs.wasm_features as wasm_features
pub use Rattle.wasm_ref_types.specs.wasm_reader as wasm_reader
pub use Rattle.wasm_ref_types.specs as wasm_ref_types
