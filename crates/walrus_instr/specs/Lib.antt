pub mod Bits
pub mod BlockTypes
pub mod Constants
pub mod Copies
pub mod Cuts
pub mod Lends
pub mod Renamed
pub mod SeqTypes
pub mod Widths
-- Passed on to crates above, which then list this one alone.
pub use Rattle.walrus_types.specs.walrus_forms as walrus_forms
pub use Rattle.walrus_types.specs.walrus_items as walrus_items
pub use Rattle.walrus_types.specs as walrus_types
