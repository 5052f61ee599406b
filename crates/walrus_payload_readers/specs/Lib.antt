pub mod Gives
pub mod Keeps
pub mod Counts
pub mod Bearers
pub mod Parts
pub mod Values
-- Passed on to crates above, which then list this one alone.
pub use Rattle.wasm_name_payloads.specs as wasm_name_payloads
