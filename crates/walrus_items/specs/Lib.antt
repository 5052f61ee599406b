pub mod Items
pub mod Lends
pub mod LocalLends
-- Passed on to crates above, which then list this one alone.
pub use Rattle.walrus_forms.specs.walrus_arena as walrus_arena
pub use Rattle.walrus_forms.specs as walrus_forms
