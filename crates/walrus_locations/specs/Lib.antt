pub mod Sent
pub mod Laws
-- Passed on to crates above, which then list this one alone.
pub use Rattle.walrus_collections.specs as walrus_collections
