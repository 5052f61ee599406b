pub mod Points
pub mod Changes
pub mod Trees
-- Passed on to crates above, which then list this one alone.
pub use Rattle.walrus_body_locals.specs as walrus_body_locals
pub use Rattle.walrus_body_operands.specs.walrus_body_rules as walrus_body_rules
pub use Rattle.walrus_body_operands.specs.walrus_body_stack as walrus_body_stack
pub use Rattle.walrus_body_operands.specs.walrus_body_steps as walrus_body_steps
pub use Rattle.walrus_body_operands.specs.walrus_body_rules.wasm_body_grammar.wasm_operators as wasm_operators
