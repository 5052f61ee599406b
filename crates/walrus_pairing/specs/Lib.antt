pub mod Looks
pub mod Types
pub mod Write
pub mod Seen
pub mod Answers
pub mod Read
pub mod Spaces
pub mod Plain
pub mod Turns
pub mod Laws
pub mod InstrLaws
pub mod Back
pub mod Numeric
pub mod Together
pub mod Sends
pub mod Sent
pub mod Lists
pub mod Tables
-- Passed on to crates above, which then list this one alone.
pub use Rattle.walrus_codes.specs as walrus_codes
pub use Rattle.walrus_forms.specs as walrus_forms
pub use Rattle.walrus_index_maps.specs as walrus_index_maps
pub use Rattle.walrus_codes.specs.walrus_instr as walrus_instr
pub use Rattle.walrus_codes.specs.walrus_items as walrus_items
pub use Rattle.walrus_operators.specs as walrus_operators
pub use Rattle.walrus_operators.specs.wasm_operators as wasm_operators
