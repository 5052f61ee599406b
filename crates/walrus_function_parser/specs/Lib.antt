pub mod Parsed
-- Passed on to crates above, which then list this one alone.
pub use Rattle.walrus_body_parser.specs as walrus_body_parser
pub use Rattle.walrus_body_parser.specs.walrus_body_locals as walrus_body_locals
pub use Rattle.walrus_body_parser.specs.walrus_body_rules as walrus_body_rules
