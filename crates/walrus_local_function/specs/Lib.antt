pub mod Locals
pub mod Refusals
-- Passed on to crates above, which then list this one alone.
pub use Rattle.walrus_function_parser.specs.walrus_body_parser as walrus_body_parser
pub use Rattle.walrus_function_parser.specs.walrus_body_locals as walrus_body_locals
pub use Rattle.walrus_body_names.specs.walrus_body_writer as walrus_body_writer
pub use Rattle.walrus_function_parser.specs as walrus_function_parser
pub use Rattle.walrus_body_names.specs.walrus_tree as walrus_tree
