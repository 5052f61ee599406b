pub mod Left
pub mod Listed
pub mod Pairs
pub mod Places
pub mod Settled
pub mod Told
pub mod Whole
pub mod Written
-- Passed on to crates above, which then list this one alone.
pub use Rattle.walrus_emit_code.specs as walrus_emit_code
