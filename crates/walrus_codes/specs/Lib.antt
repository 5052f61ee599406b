pub mod Runs
pub mod Unary
pub mod Binary
pub mod Ternary
pub mod Access
-- Passed on to crates above, which then list this one alone.
pub use Rattle.walrus_instr.specs as walrus_instr
pub use Rattle.walrus_instr.specs.walrus_items as walrus_items
pub use Rattle.wasm_operators.specs as wasm_operators
