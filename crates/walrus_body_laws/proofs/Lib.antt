mod Codes
mod Forms
mod Telling
pub mod Agreeing
mod Nesting
mod Renamed
mod Meant
mod Read
mod Named
mod Runs
pub mod Fitting
pub mod Meeting
mod Told
mod Types
mod Instrs
mod Sequences
mod Walks
mod Slots
pub mod Answers
-- Passed on to crates above, which then list this one alone.
pub use Rattle.walrus_body_trees.proofs as walrus_body_trees
pub use Rattle.walrus_handler_laws.proofs as walrus_handler_laws
