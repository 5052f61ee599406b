pub mod Spelled
pub mod Numbers
pub mod Outputs
pub mod Refusals
pub mod Appended
pub mod Emitting
-- Passed on to crates above, which then list this one alone.
pub use Rattle.walrus_body_text.specs as walrus_body_text
pub use Rattle.walrus_body_text.specs.walrus_body_env as walrus_body_env
pub use Rattle.walrus_pairing.specs as walrus_pairing
pub use Rattle.walrus_body_text.specs.walrus_tree as walrus_tree
