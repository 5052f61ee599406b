pub mod Types
pub mod Items
pub mod State
pub mod Rooms
pub mod Leads
-- Passed on to crates above, which then list this one alone.
pub use Rattle.wasm_sections.specs as wasm_sections
