pub use Rattle.walrus_type_arenas.specs.walrus_type_index.walrus_items.Items
pub use Rattle.walrus_type_arenas.specs.Emission
pub use Rattle.walrus_type_arenas.specs.Groups
pub use Rattle.walrus_type_arenas.specs.Highest
pub mod Inverse
pub mod Last
pub mod Merged
pub mod Mergers
pub mod Pairs
pub mod Parsing
pub use Rattle.walrus_type_arenas.specs.Ranks
pub use Rattle.walrus_type_arenas.specs.Table
pub mod TableLends
pub use Rattle.walrus_type_arenas.specs.TypeLaws
-- Passed on to crates above, which then list this one alone.
pub use Rattle.walrus_type_arenas.specs.walrus_type_index.walrus_items.walrus_forms as walrus_forms
pub use Rattle.walrus_type_arenas.specs.walrus_type_index.walrus_items as walrus_items
