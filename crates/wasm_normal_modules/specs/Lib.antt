pub mod Modules
pub mod Numbered
-- Passed on to crates above, which then list this one alone.
pub use Rattle.wasm_ruled_renamed.specs as wasm_ruled_renamed
