pub mod Env
pub mod Filled
pub mod Around
pub mod Parsed
pub mod First
pub mod Handled
-- Passed on to crates above, which then list this one alone.
pub use Rattle.walrus_functions_into.specs as walrus_functions_into
pub use Rattle.walrus_functions_into.specs.walrus_collections.walrus_body_parser as walrus_body_parser
pub use Rattle.walrus_functions_into.specs.walrus_collections as walrus_collections
pub use Rattle.wasm_run_names.specs as wasm_run_names
pub use Rattle.walrus_handler_types.specs as walrus_handler_types
