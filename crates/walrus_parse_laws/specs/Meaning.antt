-- What a module means whose collections began empty and were filled with what was read of a file: the file's module, each number of
-- a type sent to its id.
use Rattle.std.specs.Prelude.{ℕ, ◌≡◌, ◌≢◌, ◌<◌, List, [], All, map, Option, Some, string_bytes}
use Rattle.walrus_arena.specs.Arena.{Arena}
use Rattle.walrus_named_bodies.specs.walrus_file_bodies.walrus_items_into.walrus_module_bodies.walrus_body_trees.walrus_meaning.walrus_local_function.walrus_body_locals.wasm_grammar.Modules.{Custom}
use Rattle.walrus_named_bodies.specs.wasm_spelled_modules.Spelled.{AreSpelled}
use Rattle.walrus_named_bodies.specs.walrus_file_bodies.walrus_items_into.walrus_module_bodies.walrus_body_trees.walrus_meaning.walrus_local_function.walrus_body_locals.wasm_grammar.wasm_operators.wasm_features.declared.WasmFeatures.{WasmFeatures}
use Rattle.walrus_named_bodies.specs.walrus_file_bodies.walrus_items_into.walrus_module_bodies.walrus_body_trees.walrus_meaning.walrus_linked.walrus_module_items.declared.import.Import.{Import}
use Rattle.walrus_named_bodies.specs.walrus_file_bodies.walrus_items_into.walrus_module_bodies.walrus_body_trees.walrus_meaning.walrus_linked.walrus_module_items.declared.export.Export.{Export}
use Rattle.walrus_named_bodies.specs.walrus_file_bodies.walrus_items_into.walrus_module_bodies.walrus_body_trees.walrus_meaning.walrus_linked.walrus_module_items.declared.function.Function.{Function}
use Rattle.walrus_named_bodies.specs.walrus_file_bodies.walrus_items_into.walrus_module_bodies.walrus_body_trees.walrus_meaning.walrus_linked.walrus_module_items.declared.table.Table.{Table}
use Rattle.walrus_named_bodies.specs.walrus_file_bodies.walrus_items_into.walrus_module_bodies.walrus_body_trees.walrus_meaning.walrus_linked.walrus_module_items.declared.memory.Memory.{Memory}
use Rattle.walrus_named_bodies.specs.walrus_file_bodies.walrus_items_into.walrus_module_bodies.walrus_body_trees.walrus_meaning.walrus_linked.walrus_module_items.declared.global.Global.{Global}
use Rattle.walrus_named_bodies.specs.walrus_file_bodies.walrus_items_into.walrus_module_bodies.walrus_body_trees.walrus_meaning.walrus_linked.walrus_module_items.declared.tag.Tag.{Tag}
use Rattle.walrus_named_bodies.specs.walrus_file_bodies.walrus_items_into.walrus_module_bodies.walrus_body_trees.walrus_meaning.walrus_linked.walrus_module_items.declared.data.Data.{Data}
use Rattle.walrus_named_bodies.specs.walrus_file_bodies.walrus_items_into.walrus_module_bodies.walrus_body_trees.walrus_meaning.walrus_linked.walrus_module_items.declared.element.Element.{Element}
use Rattle.walrus_named_bodies.specs.walrus_file_bodies.walrus_items_into.walrus_module_bodies.walrus_body_trees.walrus_meaning.walrus_module.Parts.{Module}
use Rattle.walrus_named_bodies.specs.walrus_file_bodies.walrus_items_into.Numbers.{types_in}
use Rattle.walrus_named_bodies.specs.walrus_file_bodies.walrus_items_into.walrus_functions_into.wasm_sections.Laws.{ReadsSections}
use Rattle.walrus_named_bodies.specs.walrus_file_bodies.walrus_items_into.walrus_module_bodies.walrus_body_trees.walrus_meaning.Meaning.{slots_of, own_import, own_export, own_function, own_table, own_memory, own_global, own_tag, own_element, own_segment, means}
use Rattle.walrus_named_bodies.specs.walrus_file_bodies.walrus_items_into.walrus_tables_into.walrus_sections.declared.section.Section.{Section}
use Rattle.walrus_named_bodies.specs.walrus_file_bodies.walrus_items_into.walrus_tables_into.walrus_sections.declared.section.Section.TheVariants.{Raw, Boxed}
use Rattle.walrus_named_bodies.specs.walrus_file_bodies.walrus_items_into.walrus_tables_into.walrus_sections_into.Numbers.{upto}
use Rattle.walrus_named_bodies.specs.walrus_file_bodies.walrus_items_into.walrus_tables_into.walrus_sections_into.walrus_index_maps.Maps.{Ids}
use Rattle.walrus_named_bodies.specs.walrus_file_bodies.walrus_items_into.walrus_tables_into.walrus_sections_into.walrus_known_sections.declared.sections.Sections.{Sections}
use Rattle.walrus_named_bodies.specs.walrus_file_bodies.walrus_items_into.walrus_tables_into.walrus_sections_into.walrus_known_sections.Items.{custom_of}
use Rattle.walrus_named_bodies.specs.walrus_file_bodies.walrus_items_into.walrus_tables_into.walrus_sections_into.walrus_known_sections.State.{state_of}
use Rattle.walrus_named_bodies.specs.walrus_file_bodies.walrus_items_into.walrus_tables_into.walrus_sections_into.walrus_pairing.Looks.{Look}
use Rattle.walrus_named_bodies.specs.walrus_file_bodies.walrus_items_into.walrus_tables_into.walrus_sections_into.walrus_pairing.walrus_items.declared.local.Local.{Local}
use Rattle.walrus_named_bodies.specs.walrus_file_bodies.walrus_items_into.walrus_tables_into.walrus_sections_into.wasm_operators.Items.{Space, Types}
use Rattle.walrus_named_bodies.specs.walrus_file_bodies.walrus_items_into.walrus_tables_into.walrus_sections_into.Becomes.{look_of, renames_by}
use Rattle.walrus_named_bodies.specs.walrus_file_bodies.walrus_items_into.walrus_tables_into.walrus_sections_into.Slots.{Filled, IsMemoryOf}
use Rattle.walrus_named_bodies.specs.walrus_file_bodies.walrus_items_into.walrus_tables_into.walrus_sections_into.Imports.{IsImportOf}
use Rattle.walrus_named_bodies.specs.walrus_file_bodies.walrus_items_into.walrus_tables_into.walrus_sections_into.Exports.{IsExportOf, StartBecomes}
use Rattle.walrus_named_bodies.specs.walrus_file_bodies.walrus_items_into.walrus_tables_into.walrus_sections_into.Segments.{IsSegmentOf}
use Rattle.walrus_named_bodies.specs.walrus_file_bodies.walrus_items_into.walrus_tables_into.walrus_sections_into.Tags.{IsTagOf}
use Rattle.walrus_named_bodies.specs.walrus_file_bodies.walrus_items_into.walrus_tables_into.Customs.{IsCustomOf, plain}
use Rattle.walrus_named_bodies.specs.walrus_file_bodies.walrus_items_into.walrus_tables_into.Elements.{IsElementOf}
use Rattle.walrus_named_bodies.specs.walrus_file_bodies.walrus_items_into.walrus_tables_into.Globals.{IsGlobalOf}
use Rattle.walrus_named_bodies.specs.walrus_file_bodies.walrus_items_into.walrus_tables_into.Tables.{IsTableOf}
use Rattle.walrus_parse_laws.specs.Functions.{IsFunctionOf}
use Rattle.walrus_parse_laws.specs.FilledGroups.{kept}
use Rattle.walrus_parse_laws.specs.Renamed.{each, retyped_function, retyped_table, retyped_tag, retyped_global, retyped_element, retyped_segment, retyped}

-- the id of a type's number; one that names none stays
abbrev pub type_id : Look → ℕ → ℕ
type_id look = renames_by look Types

-- in all spaces but that of types each number is its own id
abbrev pub OthersStay : Look → Type 0
OthersStay look = (space : Space) (n id : ℕ) → space ≢ Types → look space n ≡ Some id → id ≡ n

-- 0, 1 and on
abbrev pub IsInOrder : List ℕ → Type 0
IsInOrder ids = (count : ℕ) × (ids ≡ upto count)

-- so it is where the map of each such space has its items in their order, and no local is named yet
pub record AreInOrder (m : Ids) : Type 0 where
  pub functions : IsInOrder m.functions
  pub tables : IsInOrder m.tables
  pub memories : IsInOrder m.memories
  pub tags : IsInOrder m.tags
  pub globals : IsInOrder m.globals
  pub elements : IsInOrder m.elements
  pub segments : IsInOrder m.segments
  pub locals : m.locals 0 ≡ []

abbrev pub OrderedStay : Type 0
OrderedStay = (m : Ids) → AreInOrder m → OthersStay (look_of m)

-- ---- space by space

abbrev pub ImportsMean : Type 0
ImportsMean = (s : Sections) (look : Look) (new : Arena Import) → OthersStay look → Filled (IsImportOf look) s.imports.items [] new.slots → slots_of own_import new ≡ (state_of s).filled.imports

abbrev pub FunctionsMean : Type 0
FunctionsMean = (s : Sections) (look : Look) (locals : List Local) (new : Arena Function) → Filled (IsFunctionOf look) s.functions.items [] new.slots
    → slots_of (own_function locals) new ≡ each (retyped_function (type_id look)) (state_of s).filled.functions

abbrev pub TablesMean : Type 0
TablesMean = (features : WasmFeatures) (s : Sections) (look : Look) (new : Arena Table) → AreSpelled features (state_of s).filled → OthersStay look
    → Filled (IsTableOf look) s.tables.items [] new.slots → slots_of own_table new ≡ each (retyped_table (type_id look)) (state_of s).filled.tables

abbrev pub MemoriesMean : Type 0
MemoriesMean = (s : Sections) (new : Arena Memory) → Filled IsMemoryOf s.memories.items [] new.slots → slots_of own_memory new ≡ (state_of s).filled.memories

abbrev pub TagsMean : Type 0
TagsMean = (s : Sections) (look : Look) (new : Arena Tag) → Filled (IsTagOf look) s.tags.items [] new.slots → slots_of own_tag new ≡ each (retyped_tag (type_id look)) (state_of s).filled.tags

abbrev pub GlobalsMean : Type 0
GlobalsMean = (features : WasmFeatures) (s : Sections) (look : Look) (new : Arena Global) → AreSpelled features (state_of s).filled → OthersStay look
    → Filled (IsGlobalOf look) s.globals.items [] new.slots → slots_of own_global new ≡ each (retyped_global (type_id look)) (state_of s).filled.globals

abbrev pub ExportsMean : Type 0
ExportsMean = (s : Sections) (look : Look) (new : Arena Export) → OthersStay look → Filled (IsExportOf look) s.exports.items [] new.slots → slots_of own_export new ≡ (state_of s).filled.exports

abbrev pub StartMeans : Type 0
StartMeans = (s : Sections) (look : Look) (start : Option ℕ) → OthersStay look → StartBecomes look s.start start → start ≡ (state_of s).filled.start

abbrev pub ElementsMean : Type 0
ElementsMean = (features : WasmFeatures) (s : Sections) (look : Look) (new : Arena Element) → AreSpelled features (state_of s).filled → OthersStay look
    → Filled (IsElementOf look) s.elements.items [] new.slots → slots_of own_element new ≡ each (retyped_element (type_id look)) (state_of s).filled.elements

abbrev pub SegmentsMean : Type 0
SegmentsMean = (features : WasmFeatures) (s : Sections) (look : Look) (new : Arena Data) → AreSpelled features (state_of s).filled → OthersStay look
    → Filled (IsSegmentOf look) s.segments.items [] new.slots → slots_of own_segment new ≡ each (retyped_segment (type_id look)) (state_of s).filled.segments

-- a raw section as it stands, a boxed one as it is given
abbrev pub own_custom : {B : Type 0} → (B → Custom) → Section B → Custom
own_custom given (Raw section) = record { name = string_bytes section.name; bytes = section.bytes.items }
own_custom given (Boxed section) = given section

abbrev pub CustomsMean : {B : Type 0} → (B → Custom) → Type 0
CustomsMean {B} given = (s : Sections) (new : Arena (Section B)) → Filled IsCustomOf (plain s.customs.items) [] new.slots → slots_of (own_custom given) new ≡ map (λ c. Some (custom_of c)) (plain s.customs.items)

-- ---- all of it

-- a table and collections that began empty, filled with what was read
pub record AreFilled (s : Sections) (look : Look) (m : Module) : Type 0 where
  pub types : m.types ≡ (types_in s).table
  pub imports : Filled (IsImportOf look) s.imports.items [] m.imports.slots
  pub functions : Filled (IsFunctionOf look) s.functions.items [] m.funcs.slots
  pub tables : Filled (IsTableOf look) s.tables.items [] m.tables.slots
  pub memories : Filled IsMemoryOf s.memories.items [] m.memories.slots
  pub tags : Filled (IsTagOf look) s.tags.items [] m.tags.slots
  pub globals : Filled (IsGlobalOf look) s.globals.items [] m.globals.slots
  pub exports : Filled (IsExportOf look) s.exports.items [] m.exports.slots
  pub start : StartBecomes look s.start m.start
  pub elements : Filled (IsElementOf look) s.elements.items [] m.elements.slots
  pub segments : Filled (IsSegmentOf look) s.segments.items [] m.data_segments.slots

-- the module means the file's, where types alone have other ids, and merged ones are left out; bodies come later, and custom sections
-- aren't in what a module means
abbrev pub ModuleMeans : Type 0
ModuleMeans = (features : WasmFeatures) (bytes : List ℕ) (s : Sections) (look : Look) (m : Module) → All (λ b. b < 256) bytes → ReadsSections features bytes (state_of s) → OthersStay look → AreFilled s look m
    → means m ≡ record (retyped (type_id look) (state_of s).filled) { groups = kept (types_in s).ids 0 s.types; customs = [] }
