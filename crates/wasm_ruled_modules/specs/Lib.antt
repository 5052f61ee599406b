pub mod Bodied
pub mod Codes
pub mod Counted
pub mod Expressed
pub mod Grouped
pub mod Keeping
pub mod More
pub mod Named
pub mod Reading
pub mod Rules
-- Passed on to crates above, which then list this one alone.
pub use Rattle.wasm_module_rules.specs as wasm_module_rules
