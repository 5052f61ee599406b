pub mod Bits
pub mod Compared
pub mod Below
pub mod Same
pub mod Ranks
-- Passed on to crates above, which then list this one alone.
pub use Rattle.wasm_reader.proofs as wasm_reader
