pub mod Constants
pub mod Spelled
-- Passed on to crates above, which then list this one alone.
pub use Rattle.wasm_module_rules.specs as wasm_module_rules
pub use Rattle.wasm_operators.specs as wasm_operators
pub use Rattle.wasm_section_bytes.specs as wasm_section_bytes
