pub mod Spaces
pub mod Numbers
pub mod Filled
pub mod Laws
-- Passed on to crates above, which then list this one alone.
pub use Rattle.walrus_read_laws.specs.wasm_spelled_modules as wasm_spelled_modules
pub use Rattle.walrus_module_bodies.specs as walrus_module_bodies
pub use Rattle.walrus_module_bodies.specs.walrus_functions_into as walrus_functions_into
pub use Rattle.walrus_module_bodies.specs.walrus_module_env as walrus_module_env
pub use Rattle.walrus_payloads_into.specs as walrus_payloads_into
pub use Rattle.walrus_read_laws.specs.walrus_tables_into as walrus_tables_into
pub use Rattle.walrus_module_bodies.specs.walrus_functions_into.wasm_module_rules as wasm_module_rules
pub use Rattle.walrus_module_bodies.specs.walrus_functions_into.wasm_sections as wasm_sections
