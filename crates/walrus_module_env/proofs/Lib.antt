mod AroundLemmas
mod FiledLemmas
mod ParseLemmas
mod PickLemmas
mod FirstLemmas
mod HandledLemmas
-- Passed on to crates above, which then list this one alone.
pub use Rattle.walrus_types.proofs as walrus_types
pub use Rattle.walrus_handler_types.proofs as walrus_handler_types
pub use Rattle.walrus_functions_into.proofs.walrus_collections.walrus_function_parser as walrus_function_parser
pub use Rattle.walrus_functions_into.proofs.walrus_collections.walrus_body_parser as walrus_body_parser
