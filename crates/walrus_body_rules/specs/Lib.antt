pub mod Sights
pub mod Rules
pub mod Agreeing
-- Passed on to crates above, which then list this one alone.
pub use Rattle.walrus_pairing.specs.walrus_codes as walrus_codes
pub use Rattle.walrus_pairing.specs.walrus_forms as walrus_forms
pub use Rattle.walrus_pairing.specs as walrus_pairing
pub use Rattle.wasm_body_grammar.specs as wasm_body_grammar
pub use Rattle.wasm_body_grammar.specs.wasm_grammar as wasm_grammar
