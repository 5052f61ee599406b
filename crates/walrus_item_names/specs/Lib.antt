pub mod Holder
pub mod Sent
pub mod Called
pub mod Names
pub mod Gives
pub mod Targets
pub mod Synthetic
-- Passed on to crates above, which then list this one alone.
pub use Rattle.walrus_module.specs as walrus_module
