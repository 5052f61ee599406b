mod AddLemmas
mod PairLemmas
mod TypedLemmas
mod CodeLemmas
-- Passed on to crates above, which then list this one alone.
pub use Rattle.walrus_collections.proofs as walrus_collections
