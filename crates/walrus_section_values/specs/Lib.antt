pub mod Limits
pub mod Constants
pub mod Untils
pub mod Globals
pub mod Plain
-- Passed on to crates above, which then list this one alone.
pub use Rattle.walrus_section_reader.specs as walrus_section_reader
