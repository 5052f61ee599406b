pub mod Answers
pub mod Lends
pub mod Refusals
pub mod Sections
-- Passed on to crates above, which then list this one alone.
pub use Rattle.walrus_roots.specs as walrus_roots
