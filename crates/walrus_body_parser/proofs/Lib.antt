mod Turning
mod Typing
pub mod Takes
mod Reading
mod Looping
mod Classes
mod Running
-- Passed on to crates above, which then list this one alone.
pub use Rattle.walrus_body_locals.proofs as walrus_body_locals
