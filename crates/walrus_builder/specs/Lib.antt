pub mod Built
pub mod Edited
pub mod Functions
pub mod Holders
pub mod Lends
pub mod OwnIds
-- Passed on to crates above, which then list this one alone.
pub use Rattle.walrus_walks.specs as walrus_walks
