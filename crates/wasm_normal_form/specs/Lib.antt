pub mod Roles
pub mod Trees
pub mod Normal
pub mod Locals
pub mod Bodies
pub mod Places
pub mod Laws
pub mod Rows
-- Passed on to crates above, which then list this one alone.
pub use Rattle.wasm_operators.specs as wasm_operators
