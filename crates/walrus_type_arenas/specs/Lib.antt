pub mod Counts
pub mod Emission
pub mod Groups
pub mod Highest
pub mod Ranks
pub mod Table
pub mod TypeLaws
-- Passed on to crates above, which then list this one alone.
pub use Rattle.walrus_type_index.specs as walrus_type_index
