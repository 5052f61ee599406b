pub mod Laws
pub mod Modules
pub mod Read
-- Passed on to crates above, which then list this one alone.
pub use Rattle.wasm_sections.specs.wasm_types as wasm_types
pub use Rattle.wasm_body_grammar.specs as wasm_body_grammar
pub use Rattle.wasm_sections.specs as wasm_sections
