pub mod KindTotal
pub mod OrderLemmas
pub mod OrderedLemmas
pub mod Tied
pub mod DirectoryLemmas
pub mod TreeLemmas
pub mod FlatLemmas
pub mod FlatJoins
pub mod FlatEdits
pub mod FlatFilters
pub mod FlatSplits
pub mod FlatSearches
pub mod FlatListed
pub mod ForestLemmas
-- Passed on to crates above, which then list this one alone.
pub use Rattle.walrus_items.proofs.walrus_forms as walrus_forms
