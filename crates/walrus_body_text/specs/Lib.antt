pub mod Nexts
pub mod Doing
pub mod Walking
pub mod Tested
pub mod Visiting
-- Passed on to crates above, which then list this one alone.
pub use Rattle.walrus_body_env.specs as walrus_body_env
pub use Rattle.walrus_tree.specs as walrus_tree
