pub mod Kept
pub mod References
pub mod Roots
-- Passed on to crates above, which then list this one alone.
pub use Rattle.wasm_body_grammar.specs as wasm_body_grammar
pub use Rattle.wasm_formats.specs as wasm_formats
pub use Rattle.wasm_grammar.specs as wasm_grammar
pub use Rattle.wasm_grammar.specs.wasm_operators as wasm_operators
