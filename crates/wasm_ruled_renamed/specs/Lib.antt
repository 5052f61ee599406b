pub mod Renamed
pub mod Types
pub mod Bodies
pub mod Rows
-- Passed on to crates above, which then list this one alone.
pub use Rattle.wasm_ruled_normal.specs as wasm_ruled_normal
