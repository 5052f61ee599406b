pub mod Asked
pub mod DroppedTypes
pub mod Keeping
pub mod Part
pub mod UsedItems
-- Passed on to crates above, which then list this one alone.
pub use Rattle.walrus_refusals.specs.walrus_exact as walrus_exact
pub use Rattle.walrus_refusals.specs as walrus_refusals
