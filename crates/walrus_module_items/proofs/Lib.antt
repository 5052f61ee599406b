pub mod CopyLemmas
-- Passed on to crates above, which then list this one alone.
pub use Rattle.walrus_local_function.proofs.walrus_function_parser as walrus_function_parser
pub use Rattle.walrus_local_function.proofs.walrus_body_parser as walrus_body_parser
