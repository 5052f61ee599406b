mod ArgumentLemmas
mod AsideLemmas
mod BodyLemmas
mod LawLemmas
mod ReadingLemmas
pub mod StepLemmas
mod StopLemmas
mod TryReads
mod TryTrees
mod TryLemmas
-- Passed on to crates above, which then list this one alone.
pub use Rattle.walrus_body_trees.proofs.walrus_pairing as walrus_pairing
pub use Rattle.walrus_module_env.proofs.walrus_handler_types as walrus_handler_types
