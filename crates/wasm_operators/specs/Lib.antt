pub mod Items
pub mod Readings
pub mod ItemSpellings
pub mod MadeTaken
pub mod ItemFinals
pub mod BlockTaken
pub mod LeavesTaken
pub mod ItemsTaken
pub mod Table
pub mod Kinds
pub mod Operators
pub mod Spellings
pub mod Finals
pub mod Taken
pub mod Bytes
pub mod Laws
pub mod Numbers
pub mod Types
pub mod Vecs
pub mod Leaves
pub mod Written
pub mod Signs
pub mod Appended
pub mod Names
pub mod NameLaws
pub mod Renamed
pub mod Ranges
pub mod RangeLaws
-- Passed on to crates above, which then list this one alone.
pub use Rattle.wasm_composite_types.specs as wasm_composite_types
pub use Rattle.wasm_composite_types.specs.wasm_features as wasm_features
pub use Rattle.wasm_composite_types.specs.wasm_reader as wasm_reader
pub use Rattle.wasm_composite_types.specs.wasm_ref_types as wasm_ref_types
