pub mod Forms
pub mod WritingLaws
pub mod Naming
pub mod Nesting
pub mod Renaming
pub mod EmissionLaws
pub mod Runs
pub mod Answers
pub mod WalkingLaws
-- Passed on to crates above, which then list this one alone.
pub use Rattle.walrus_body_names.specs as walrus_body_names
pub use Rattle.walrus_body_steps.specs as walrus_body_steps
pub use Rattle.walrus_body_trees.specs as walrus_body_trees
pub use Rattle.walrus_local_numbers.specs as walrus_local_numbers
pub use Rattle.walrus_marks.specs as walrus_marks
pub use Rattle.walrus_pairing.specs as walrus_pairing
pub use Rattle.wasm_run_laws.specs as wasm_run_laws
