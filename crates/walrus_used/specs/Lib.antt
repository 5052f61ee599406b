pub mod Asked
pub mod Bodies
pub mod Counts
pub mod Looks
pub mod Picks
-- Passed on to crates above, which then list this one alone.
pub use Rattle.walrus_references.specs.walrus_local_function as walrus_local_function
pub use Rattle.walrus_references.specs.walrus_module as walrus_module
pub use Rattle.walrus_references.specs.walrus_module_items as walrus_module_items
pub use Rattle.walrus_references.specs as walrus_references
