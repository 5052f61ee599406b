pub mod Items
pub mod Linking
pub mod Parts
pub mod Replaced
-- Passed on to crates above, which then list this one alone.
pub use Rattle.walrus_collections.specs.walrus_body_writer as walrus_body_writer
pub use Rattle.walrus_builder.specs as walrus_builder
pub use Rattle.walrus_collections.specs as walrus_collections
pub use Rattle.walrus_collections.specs.walrus_local_function as walrus_local_function
pub use Rattle.walrus_collections.specs.walrus_module_items as walrus_module_items
pub use Rattle.walrus_collections.specs.walrus_tree as walrus_tree
pub use Rattle.walrus_types.specs as walrus_types
