pub mod Stands
pub mod Opens
pub mod Seqs
pub mod Sizes
pub mod Grown
pub mod Turning
pub mod Ending
pub mod Steps
pub mod Faults
-- Passed on to crates above, which then list this one alone.
pub use Rattle.walrus_builder.specs as walrus_builder
pub use Rattle.walrus_body_env.specs as walrus_body_env
pub use Rattle.wasm_body_grammar.specs as wasm_body_grammar
pub use Rattle.wasm_body_grammar.specs.wasm_formats as wasm_formats
pub use Rattle.wasm_body_grammar.specs.wasm_grammar as wasm_grammar
pub use Rattle.wasm_normal_form.specs as wasm_normal_form
