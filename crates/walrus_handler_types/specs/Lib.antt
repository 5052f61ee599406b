pub mod Giving
-- Passed on to crates above, which then list this one alone.
pub use Rattle.walrus_handlers.specs as walrus_handlers
pub use Rattle.walrus_handlers.specs.walrus_handler_laws as walrus_handler_laws
pub use Rattle.walrus_handlers.specs.walrus_body_steps as walrus_body_steps
pub use Rattle.walrus_handlers.specs.walrus_tree as walrus_tree
