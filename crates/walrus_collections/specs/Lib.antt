pub mod Added
pub mod Answers
pub mod Found
pub mod Lends
pub mod LookUps
pub mod Tests
-- Passed on to crates above, which then list this one alone.
pub use Rattle.walrus_module_items.specs.walrus_body_parser as walrus_body_parser
pub use Rattle.walrus_module_items.specs.walrus_body_writer as walrus_body_writer
pub use Rattle.walrus_module_items.specs.walrus_local_function as walrus_local_function
pub use Rattle.walrus_module_items.specs as walrus_module_items
pub use Rattle.walrus_module_items.specs.walrus_tree as walrus_tree
