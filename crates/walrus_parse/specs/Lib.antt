pub mod Nothing
pub mod Refusals
pub use Rattle.walrus_named_bodies.specs.Parsed
-- Passed on to crates above, which then list this one alone.
pub use Rattle.walrus_named_bodies.specs.wasm_spelled_modules as wasm_spelled_modules
pub use Rattle.walrus_named_bodies.specs as walrus_named_bodies
pub use Rattle.walrus_named_bodies.specs.walrus_file_bodies.walrus_body_trees as walrus_body_trees
pub use Rattle.walrus_named_bodies.specs.walrus_file_bodies as walrus_file_bodies
pub use Rattle.walrus_named_bodies.specs.walrus_item_names as walrus_item_names
pub use Rattle.walrus_named_bodies.specs.walrus_item_names.walrus_module as walrus_module
pub use Rattle.walrus_file_reader.specs as walrus_file_reader
