pub mod Immediates
pub mod Operators
pub mod Copies
pub mod Laws
pub mod Appended
pub mod WrittenLaws
-- Passed on to crates above, which then list this one alone.
pub use Rattle.wasm_operators.specs as wasm_operators
