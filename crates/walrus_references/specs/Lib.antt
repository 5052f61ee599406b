pub mod Kept
pub mod References
pub mod Refused
pub mod Roots
-- Passed on to crates above, which then list this one alone.
pub use Rattle.walrus_module.specs.walrus_builder as walrus_builder
pub use Rattle.walrus_module.specs.walrus_local_function as walrus_local_function
pub use Rattle.walrus_module.specs as walrus_module
pub use Rattle.walrus_module.specs.walrus_module_items as walrus_module_items
