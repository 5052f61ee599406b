pub mod Decided
pub mod Entities
pub mod Exports
pub mod Ids
pub mod Laws
pub mod Modules
pub mod Read
pub mod Sections
pub mod Segments
pub mod TypeNames
pub mod TypeSection
pub mod Within
-- Passed on to crates above, which then list this one alone.
pub use Rattle.wasm_types.specs as wasm_types
pub use Rattle.wasm_grammar.specs as wasm_grammar
pub use Rattle.wasm_file_formats.specs as wasm_file_formats
