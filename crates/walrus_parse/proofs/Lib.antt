mod ReadLemmas
mod WantLemmas
mod RefusalLemmas
pub mod TypeLemmas
pub mod WholeLemmas
-- Passed on to crates above, which then list this one alone.
pub use Rattle.walrus_named_bodies.proofs.walrus_pairing as walrus_pairing
pub use Rattle.walrus_named_bodies.proofs.walrus_handler_types as walrus_handler_types
pub use Rattle.walrus_named_bodies.proofs.walrus_module_bodies as walrus_module_bodies
pub use Rattle.walrus_named_bodies.proofs as walrus_named_bodies
pub use Rattle.walrus_named_bodies.proofs.walrus_file_bodies as walrus_file_bodies
