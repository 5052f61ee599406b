pub mod Merged
-- Passed on to crates above, which then list this one alone.
pub use Rattle.wasm_normal_modules.specs as wasm_normal_modules
