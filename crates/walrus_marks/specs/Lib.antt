pub mod Chains
pub mod Claims
pub mod Marks
pub mod Named
-- Passed on to crates above, which then list this one alone.
pub use Rattle.walrus_instr.specs as walrus_instr
pub use Rattle.walrus_walks.specs as walrus_walks
