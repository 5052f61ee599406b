pub mod BlockLemmas
pub mod DeleteLemmas
pub mod EmitLemmas
pub mod GroupLemmas
pub mod HighestLemmas
pub mod IndexLemmas
pub mod LawLemmas
pub mod MarkLemmas
pub mod RankLemmas
pub mod SparedLemmas
pub mod SweepLemmas
pub mod TableLemmas
-- Passed on to crates above, which then list this one alone.
pub use Rattle.walrus_type_index.proofs as walrus_type_index
