pub mod Entries
pub mod Keeps
pub mod Limits
pub mod Linked
pub mod Reading
-- Passed on to crates above, which then list this one alone.
pub use Rattle.wasm_modules.specs as wasm_modules
