pub mod Declared
pub mod Written
pub mod Laws
-- Passed on to crates above, which then list this one alone.
pub use Rattle.wasm_normal_form.specs as wasm_normal_form
