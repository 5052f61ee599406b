pub mod Meanings
pub mod Laws
pub mod Stepping
pub mod Picks
-- Passed on to crates above, which then list this one alone.
pub use Rattle.walrus_body_rules.specs.walrus_codes as walrus_codes
pub use Rattle.walrus_body_stack.specs.walrus_body_env as walrus_body_env
pub use Rattle.walrus_body_stack.specs.walrus_body_nesting as walrus_body_nesting
pub use Rattle.walrus_body_rules.specs as walrus_body_rules
pub use Rattle.walrus_body_stack.specs as walrus_body_stack
pub use Rattle.walrus_body_rules.specs.wasm_body_grammar as wasm_body_grammar
pub use Rattle.walrus_body_rules.specs.wasm_grammar as wasm_grammar
pub use Rattle.walrus_body_stack.specs.wasm_normal_form as wasm_normal_form
