mod CountLemmas
mod FillLemmas
mod FiledLemmas
mod FunctionLemmas
mod LackLemmas
-- Passed on to crates above, which then list this one alone.
pub use Rattle.walrus_module_bodies.proofs.walrus_pairing as walrus_pairing
pub use Rattle.walrus_module_bodies.proofs.walrus_handler_types as walrus_handler_types
pub use Rattle.walrus_module_bodies.proofs as walrus_module_bodies
