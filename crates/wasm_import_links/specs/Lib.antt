pub mod Links
pub mod Full
-- Passed on to crates above, which then list this one alone.
pub use Rattle.wasm_ruled_modules.specs as wasm_ruled_modules
