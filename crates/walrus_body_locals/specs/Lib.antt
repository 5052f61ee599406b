pub mod Calls
pub mod Classes
pub mod Told
pub mod Named
pub mod Locals
-- Passed on to crates above, which then list this one alone.
pub use Rattle.walrus_body_nesting.specs.walrus_body_env as walrus_body_env
pub use Rattle.walrus_body_nesting.specs as walrus_body_nesting
pub use Rattle.walrus_body_nesting.specs.wasm_body_grammar as wasm_body_grammar
pub use Rattle.walrus_body_nesting.specs.wasm_grammar as wasm_grammar
pub use Rattle.walrus_pairing.specs.wasm_operators as wasm_operators
pub use Rattle.walrus_body_nesting.specs.wasm_normal_form as wasm_normal_form
pub use Rattle.wasm_ref_types.specs as wasm_ref_types
