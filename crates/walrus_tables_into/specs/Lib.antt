pub mod Types
pub mod Globals
pub mod Tables
pub mod Elements
pub mod Customs
-- Passed on to crates above, which then list this one alone.
pub use Rattle.walrus_section_values.specs as walrus_section_values
pub use Rattle.walrus_sections.specs as walrus_sections
pub use Rattle.walrus_sections_into.specs as walrus_sections_into
