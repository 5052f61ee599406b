pub mod Ordered
pub mod OrderedLaws
pub mod Places
pub mod Hashes
pub mod Targets
pub mod Directory
pub mod Flat
pub mod Forest
-- Passed on to crates above, which then list this one alone.
pub use Rattle.walrus_items.specs as walrus_items
