pub mod LinkedKept
pub mod Served
pub mod Twice
pub mod Plain
pub mod Bodies
pub mod Instrs
pub mod Items
pub mod Locals
pub mod Meant
-- Passed on to crates above, which then list this one alone.
pub use Rattle.walrus_passes.specs.walrus_exact as walrus_exact
pub use Rattle.walrus_meaning.specs as walrus_meaning
pub use Rattle.walrus_passes.specs as walrus_passes
pub use Rattle.walrus_passes.specs.walrus_refusals.walrus_used.walrus_references as walrus_references
pub use Rattle.walrus_passes.specs.walrus_refusals as walrus_refusals
