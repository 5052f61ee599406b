pub mod Envs
pub mod Laws
pub mod Reading
pub mod Steps
pub mod TryCodes
-- Passed on to crates above, which then list this one alone.
pub use Rattle.walrus_module_env.specs as walrus_module_env
pub use Rattle.walrus_module_env.specs.walrus_functions_into as walrus_functions_into
pub use Rattle.walrus_body_trees.specs as walrus_body_trees
