pub mod Named
pub mod Code
pub mod Behind
pub mod Parsed
-- Passed on to crates above, which then list this one alone.
pub use Rattle.walrus_payload_readers.specs.wasm_name_payloads as wasm_name_payloads
pub use Rattle.walrus_locations.specs as walrus_locations
pub use Rattle.walrus_file_bodies.specs.wasm_spelled_modules as wasm_spelled_modules
pub use Rattle.walrus_file_bodies.specs as walrus_file_bodies
pub use Rattle.walrus_item_names.specs as walrus_item_names
pub use Rattle.walrus_local_counts.specs as walrus_local_counts
