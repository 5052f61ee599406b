pub mod Bodies
pub mod Stopping
-- Passed on to crates above, which then list this one alone.
pub use Rattle.walrus_body_parser.proofs as walrus_body_parser
