pub mod Gathering
-- Passed on to crates above, which then list this one alone.
pub use Rattle.walrus_handler_laws.specs as walrus_handler_laws
pub use Rattle.walrus_handler_laws.specs.walrus_body_steps as walrus_body_steps
pub use Rattle.walrus_handler_laws.specs.walrus_tree as walrus_tree
