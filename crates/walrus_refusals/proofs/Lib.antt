pub mod CheckLemmas
pub mod DistinctLemmas
pub mod GroupedLemmas
pub mod PastLemmas
pub mod SoundLemmas
pub mod TreeLemmas
-- Passed on to crates above, which then list this one alone.
pub use Rattle.walrus_used.proofs as walrus_used
