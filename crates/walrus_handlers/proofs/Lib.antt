mod Gathers
mod NoTries
-- Passed on to crates above, which then list this one alone.
pub use Rattle.walrus_handler_laws.proofs as walrus_handler_laws
