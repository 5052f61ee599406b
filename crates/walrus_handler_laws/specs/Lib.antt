pub mod Handlers
pub mod Retyping
-- Passed on to crates above, which then list this one alone.
pub use Rattle.walrus_body_steps.specs as walrus_body_steps
pub use Rattle.walrus_tree.specs as walrus_tree
