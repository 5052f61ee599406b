mod CutLemmas
-- Passed on to crates above, which then list this one alone.
pub use Rattle.walrus_function_parser.proofs as walrus_function_parser
pub use Rattle.walrus_function_parser.proofs.walrus_body_parser as walrus_body_parser
