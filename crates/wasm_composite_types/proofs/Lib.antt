pub mod Items
pub mod Visits
pub mod Equal
pub mod Taken
-- Passed on to crates above, which then list this one alone.
pub use Rattle.wasm_ref_types.proofs.wasm_reader as wasm_reader
pub use Rattle.wasm_ref_types.proofs as wasm_ref_types
