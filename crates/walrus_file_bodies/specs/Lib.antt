pub mod Ready
pub mod Laws
pub mod Read
-- Passed on to crates above, which then list this one alone.
pub use Rattle.walrus_items_into.specs.wasm_spelled_modules as wasm_spelled_modules
pub use Rattle.walrus_items_into.specs.walrus_module_bodies.walrus_body_trees as walrus_body_trees
pub use Rattle.walrus_items_into.specs as walrus_items_into
pub use Rattle.walrus_items_into.specs.walrus_module_bodies as walrus_module_bodies
