pub mod Consts
pub mod Becomes
pub mod Slots
pub mod Segments
pub mod Exports
pub mod Tags
pub mod Imports
pub mod Lacks
pub mod Numbers
pub mod Loops
-- Passed on to crates above, which then list this one alone.
pub use Rattle.walrus_collections.specs as walrus_collections
pub use Rattle.walrus_forms.specs as walrus_forms
pub use Rattle.walrus_index_maps.specs as walrus_index_maps
pub use Rattle.walrus_instr.specs as walrus_instr
pub use Rattle.walrus_known_sections.specs as walrus_known_sections
pub use Rattle.walrus_collections.specs.walrus_module_items as walrus_module_items
pub use Rattle.walrus_operators.specs as walrus_operators
pub use Rattle.walrus_pairing.specs as walrus_pairing
pub use Rattle.wasm_operators.specs as wasm_operators
