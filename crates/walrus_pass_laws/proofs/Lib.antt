pub mod BodyLemmas
pub mod LinkedLemmas
pub mod ServedLemmas
pub mod TwiceLemmas
pub mod WalkLemmas
mod PlainLemmas
mod Bodies
mod Instrs
pub mod Items
mod Locals
pub mod Sets
mod Walks
mod Functions
mod Kept
mod Low
mod Owned
mod Types
-- Passed on to crates above, which then list this one alone.
pub use Rattle.walrus_passes.proofs as walrus_passes
