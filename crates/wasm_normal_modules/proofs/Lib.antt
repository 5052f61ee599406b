pub mod Slots
mod Modules
mod Picked
pub mod Reading
mod Alike
mod Numbered
-- Passed on to crates above, which then list this one alone.
pub use Rattle.wasm_ruled_renamed.proofs as wasm_ruled_renamed
