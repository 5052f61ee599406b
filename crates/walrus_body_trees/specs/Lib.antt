pub mod Laws
-- Passed on to crates above, which then list this one alone.
pub use Rattle.walrus_pairing.specs as walrus_pairing
pub use Rattle.walrus_meaning.specs as walrus_meaning
pub use Rattle.walrus_meaning.specs.walrus_local_function.walrus_body_locals.walrus_body_nesting as walrus_body_nesting
pub use Rattle.walrus_meaning.specs.walrus_body_writer.walrus_body_text as walrus_body_text
