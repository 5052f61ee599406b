pub mod Asked
pub mod Checks
pub mod Grouped
pub mod Sound
pub mod Written
-- Passed on to crates above, which then list this one alone.
pub use Rattle.walrus_used.specs as walrus_used
pub use Rattle.walrus_exact.specs as walrus_exact
