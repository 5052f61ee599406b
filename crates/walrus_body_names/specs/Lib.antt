pub mod Names
pub mod Facts
-- Passed on to crates above, which then list this one alone.
pub use Rattle.walrus_body_writer.specs.walrus_body_env as walrus_body_env
pub use Rattle.walrus_body_writer.specs as walrus_body_writer
pub use Rattle.walrus_body_writer.specs.walrus_pairing as walrus_pairing
pub use Rattle.walrus_body_writer.specs.walrus_tree as walrus_tree
