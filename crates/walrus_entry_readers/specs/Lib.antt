-- The words of what is in memory, passed on.
pub use Rattle.walrus_known_sections.specs.Types
pub use Rattle.walrus_known_sections.specs.Items
pub use Rattle.walrus_known_sections.specs.State
pub use Rattle.walrus_known_sections.specs.Rooms
pub use Rattle.walrus_known_sections.specs.Leads
pub mod Entries
pub mod Known
pub mod Imports
pub mod ImportLemmas
-- Passed on to crates above, which then list this one alone.
pub use Rattle.walrus_operators.specs as walrus_operators
pub use Rattle.walrus_section_values.specs as walrus_section_values
pub use Rattle.walrus_known_sections.specs as walrus_known_sections
