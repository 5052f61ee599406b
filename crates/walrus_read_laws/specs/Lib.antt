pub mod Numbered
pub mod Whole
-- Passed on to crates above, which then list this one alone.
pub use Rattle.wasm_spelled_modules.specs as wasm_spelled_modules
pub use Rattle.walrus_tables_into.specs as walrus_tables_into
pub use Rattle.wasm_ruled_modules.specs as wasm_ruled_modules
