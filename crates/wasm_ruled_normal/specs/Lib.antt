pub mod Normal
-- Passed on to crates above, which then list this one alone.
pub use Rattle.wasm_normal_form.specs as wasm_normal_form
pub use Rattle.wasm_ruled_modules.specs as wasm_ruled_modules
pub use Rattle.wasm_run_names.specs as wasm_run_names
