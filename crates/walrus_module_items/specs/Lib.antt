pub mod Copies
pub mod Functions
pub mod New
pub mod Imported
pub mod Words
-- Passed on to crates above, which then list this one alone.
pub use Rattle.walrus_local_function.specs.walrus_body_parser as walrus_body_parser
pub use Rattle.walrus_local_function.specs.walrus_body_writer as walrus_body_writer
pub use Rattle.walrus_local_function.specs as walrus_local_function
pub use Rattle.walrus_local_function.specs.walrus_tree as walrus_tree
