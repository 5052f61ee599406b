pub mod Groups
pub mod Members
pub mod MembersLeft
pub mod Readings
pub mod Finals
pub mod Placed
pub mod Section
pub mod Moving
pub mod Plain
pub mod Spellings
pub mod TypesTaken
pub mod Written
pub mod Remap
pub mod Parts
-- Passed on to crates above, which then list this one alone.
pub use Rattle.wasm_composite_types.specs as wasm_composite_types
