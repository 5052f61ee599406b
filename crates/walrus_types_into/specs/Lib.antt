pub mod Into
pub mod Functions
-- Passed on to crates above, which then list this one alone.
pub use Rattle.walrus_known_sections.specs as walrus_known_sections
pub use Rattle.wasm_ruled_modules.specs.wasm_module_rules as wasm_module_rules
pub use Rattle.wasm_ruled_modules.specs as wasm_ruled_modules
