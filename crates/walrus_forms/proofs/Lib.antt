pub mod AbstractLemmas
pub mod ConversionLemmas
pub mod EqLemmas
pub mod FormLemmas
pub mod ListLemmas
pub mod PlaceLemmas
pub mod PlainLemmas
pub mod RenamingLemmas
-- Passed on to crates above, which then list this one alone.
pub use Rattle.walrus_arena.proofs as walrus_arena
