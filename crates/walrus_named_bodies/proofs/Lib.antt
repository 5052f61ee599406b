pub mod CodeLemmas
-- Passed on to crates above, which then list this one alone.
pub use Rattle.walrus_file_bodies.proofs.walrus_pairing as walrus_pairing
pub use Rattle.walrus_file_bodies.proofs.walrus_handler_types as walrus_handler_types
pub use Rattle.walrus_file_bodies.proofs.walrus_module_bodies as walrus_module_bodies
pub use Rattle.walrus_file_bodies.proofs as walrus_file_bodies
