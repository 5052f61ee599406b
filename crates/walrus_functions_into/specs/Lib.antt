pub mod Functions
pub mod Bodies
pub mod Laws
-- Passed on to crates above, which then list this one alone.
pub use Rattle.walrus_collections.specs as walrus_collections
pub use Rattle.walrus_types_into.specs as walrus_types_into
pub use Rattle.walrus_types_into.specs.wasm_module_rules as wasm_module_rules
pub use Rattle.walrus_types_into.specs.walrus_known_sections.wasm_sections as wasm_sections
