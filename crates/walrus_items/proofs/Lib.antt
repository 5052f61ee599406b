-- Passed on to crates above, which then list this one alone.
pub use Rattle.walrus_forms.proofs.walrus_arena as walrus_arena
pub use Rattle.walrus_forms.proofs as walrus_forms
