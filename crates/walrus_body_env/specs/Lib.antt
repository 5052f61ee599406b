pub mod Faults
pub mod Refusals
-- Passed on to crates above, which then list this one alone.
pub use Rattle.walrus_instr.specs as walrus_instr
