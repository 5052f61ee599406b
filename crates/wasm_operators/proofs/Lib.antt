pub mod Shortens
pub mod Appends
pub mod Keeps
pub mod Digits
pub mod Numbers
pub mod Types
pub mod Leaves
pub mod Codes
pub mod Operators
mod Tables
-- Passed on to crates above, which then list this one alone.
pub use Rattle.wasm_composite_types.proofs.wasm_reader as wasm_reader
