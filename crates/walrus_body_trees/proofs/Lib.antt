pub mod Counted
pub mod Instrs
mod Standing
mod Shapes
mod Words
mod Texts
mod Sizes
pub mod Bodies
-- Passed on to crates above, which then list this one alone.
pub use Rattle.walrus_pairing.proofs as walrus_pairing
