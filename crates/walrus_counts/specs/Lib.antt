pub mod Counts
-- Passed on to crates above, which then list this one alone.
pub use Rattle.walrus_module.specs as walrus_module
