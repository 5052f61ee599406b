pub mod Customs
-- Passed on to crates above, which then list this one alone.
pub use Rattle.walrus_entry_readers.specs.walrus_known_sections as walrus_known_sections
