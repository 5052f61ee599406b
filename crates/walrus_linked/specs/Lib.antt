pub mod Empty
pub mod Kept
pub mod Linked
pub mod Names
pub mod OwnIds
-- Passed on to crates above, which then list this one alone.
pub use Rattle.walrus_module.specs.walrus_body_writer as walrus_body_writer
pub use Rattle.walrus_module.specs.walrus_collections as walrus_collections
pub use Rattle.walrus_item_meaning.specs as walrus_item_meaning
pub use Rattle.walrus_module.specs.walrus_local_function as walrus_local_function
pub use Rattle.walrus_module.specs as walrus_module
pub use Rattle.walrus_module.specs.walrus_module_items as walrus_module_items
pub use Rattle.walrus_module.specs.walrus_tree as walrus_tree
