pub mod Cursor
pub mod Reading
pub mod Numbers
pub mod Text
pub mod SmallSpellings
pub mod Items
pub mod Unless
pub mod Iter
pub mod Messages
pub mod Floats
pub mod Shortest
pub mod Spelled
pub mod Laws
pub mod Final
pub mod Finals
pub mod Spellings
pub mod Vecs
pub mod Faults
pub use Rattle.wasm_features.specs.Features
pub use Rattle.wasm_features.specs.Inflated
pub use Rattle.wasm_features.specs.Sets
-- Passed on to crates above, which then list this one alone.
pub use Rattle.wasm_features.specs as wasm_features
