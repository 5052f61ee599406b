mod Renaming
mod Exprs
mod Types
mod Orders
mod Locals
pub mod Bodies
mod Worked
-- Passed on to crates above, which then list this one alone.
pub use Rattle.wasm_ruled_normal.proofs as wasm_ruled_normal
