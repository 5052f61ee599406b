pub mod FilledGroups
pub mod Functions
pub mod Meaning
pub mod Renamed
pub mod Items
pub mod Links
pub mod Named
pub mod Whole
pub mod BodiesTexts
pub mod Uses
pub mod Locals
pub mod Indices
pub mod Types
pub mod Linked
pub mod Added
pub mod Catches
pub mod Files
pub mod Groups
pub mod Handlers
pub mod GroupsTexts
pub mod Meant
pub mod Means
-- Passed on to crates above, which then list this one alone.
pub use Rattle.walrus_named_bodies.specs.walrus_file_bodies.walrus_body_trees as walrus_body_trees
pub use Rattle.walrus_named_bodies.specs.walrus_file_bodies.walrus_items_into.walrus_module_bodies.walrus_body_trees.walrus_meaning as walrus_meaning
pub use Rattle.walrus_named_bodies.specs as walrus_named_bodies
pub use Rattle.walrus_body_laws.specs.walrus_pairing as walrus_pairing
pub use Rattle.walrus_named_bodies.specs.walrus_file_bodies.walrus_items_into.walrus_functions_into.walrus_types_into as walrus_types_into
