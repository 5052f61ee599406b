pub mod Checks
pub mod Events
pub mod ConstEvents
pub mod Tree
pub mod Steps
pub mod Walk
pub mod Changes
pub mod Changing
pub mod Order
pub mod Plain
pub mod Fronts
-- Passed on to crates above, which then list this one alone.
pub use Rattle.walrus_instr.specs.walrus_forms as walrus_forms
pub use Rattle.walrus_instr.specs as walrus_instr
pub use Rattle.walrus_instr.specs.walrus_types as walrus_types
