-- The words of contracts, passed on under one name: a crate above lists the face alone, and names them here.
-- Features and their sets.
pub use Rattle.wasm_features.specs.Features
pub use Rattle.wasm_features.specs.Inflated
pub use Rattle.wasm_features.specs.Laws as FeatureLaws
pub use Rattle.wasm_features.specs.Sets
-- The cursor, what is read at it, and what contracts of readers say.
pub use Rattle.wasm_reader.specs.Cursor
pub use Rattle.wasm_reader.specs.Faults
pub use Rattle.wasm_reader.specs.Final
pub use Rattle.wasm_reader.specs.Floats
pub use Rattle.wasm_reader.specs.Items
pub use Rattle.wasm_reader.specs.Iter
pub use Rattle.wasm_reader.specs.Laws
pub use Rattle.wasm_reader.specs.Messages
pub use Rattle.wasm_reader.specs.Numbers
pub use Rattle.wasm_reader.specs.Reading
pub use Rattle.wasm_reader.specs.Shortest
pub use Rattle.wasm_reader.specs.SmallSpellings
pub use Rattle.wasm_reader.specs.Spelled
pub use Rattle.wasm_reader.specs.Spellings
pub use Rattle.wasm_reader.specs.Text
pub use Rattle.wasm_reader.specs.Vecs
-- Heap, reference and value types.
pub use Rattle.wasm_ref_types.specs.Constants
pub use Rattle.wasm_ref_types.specs.Heaps
pub use Rattle.wasm_ref_types.specs.Indices
pub use Rattle.wasm_ref_types.specs.Orders
pub use Rattle.wasm_ref_types.specs.ReadTypes
pub use Rattle.wasm_ref_types.specs.Reference
pub use Rattle.wasm_ref_types.specs.Subtypes
pub use Rattle.wasm_ref_types.specs.Texts
pub use Rattle.wasm_ref_types.specs.TypeSpellings
pub use Rattle.wasm_ref_types.specs.Values
-- Composite types, and the types of tables, memories, globals and tags.
pub use Rattle.wasm_composite_types.specs.Entities
pub use Rattle.wasm_composite_types.specs.Fields
pub use Rattle.wasm_composite_types.specs.Forms
pub use Rattle.wasm_composite_types.specs.Readings as CompositeReadings
pub use Rattle.wasm_composite_types.specs.Remap as CompositeRemap
pub use Rattle.wasm_composite_types.specs.Spellings as CompositeSpellings
-- Subtypes, groups and the type section.
pub use Rattle.wasm_types.specs.Groups
pub use Rattle.wasm_types.specs.Members
pub use Rattle.wasm_types.specs.Moving
pub use Rattle.wasm_types.specs.Parts
pub use Rattle.wasm_types.specs.Readings
pub use Rattle.wasm_types.specs.Remap
pub use Rattle.wasm_types.specs.Section
pub use Rattle.wasm_types.specs.Spellings as SectionSpellings
