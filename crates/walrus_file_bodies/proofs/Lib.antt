pub mod DeclaredLemmas
pub mod PairLemmas
mod TagLemmas
mod ReadyLemmas
mod CountLemmas
pub mod StopLemmas
mod ReadLemmas
-- Passed on to crates above, which then list this one alone.
pub use Rattle.walrus_items_into.proofs.walrus_pairing as walrus_pairing
pub use Rattle.walrus_items_into.proofs.walrus_handler_types as walrus_handler_types
pub use Rattle.walrus_items_into.proofs.walrus_module_bodies as walrus_module_bodies
