mod AskedLemmas
pub mod KeptLemmas
pub mod PartLemmas
pub mod RestLemmas
pub mod SetLemmas
pub mod TypeLemmas
-- Passed on to crates above, which then list this one alone.
pub use Rattle.walrus_refusals.proofs.walrus_used as walrus_used
