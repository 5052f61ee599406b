pub mod Exprs
pub mod Modules
pub mod States
pub mod TypeWords
pub mod Values
-- Passed on to crates above, which then list this one alone.
pub use Rattle.wasm_formats.specs as wasm_formats
pub use Rattle.walrus_forms.specs as walrus_forms
pub use Rattle.wasm_operators.specs as wasm_operators
