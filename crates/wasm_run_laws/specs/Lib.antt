pub mod Stands
pub mod Laws
-- Passed on to crates above, which then list this one alone.
pub use Rattle.wasm_runs.specs as wasm_runs
