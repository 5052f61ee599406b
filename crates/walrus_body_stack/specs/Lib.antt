pub mod Catches
pub mod Held
pub mod Slots
pub mod Frames
-- Passed on to crates above, which then list this one alone.
pub use Rattle.walrus_body_nesting.specs.walrus_body_env as walrus_body_env
pub use Rattle.walrus_body_nesting.specs as walrus_body_nesting
pub use Rattle.walrus_body_nesting.specs.walrus_builder as walrus_builder
pub use Rattle.walrus_instr.specs as walrus_instr
pub use Rattle.walrus_body_nesting.specs.wasm_normal_form as wasm_normal_form
