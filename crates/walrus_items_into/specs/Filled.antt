-- Collections of a module, and index maps, that the sections of a file have filled.
use Rattle.std.specs.Prelude.{ℕ, ◌<◌, ◌≡◌, false, List, [], All, Option}
use Rattle.walrus_arena.specs.Arena.{Arena}
use Rattle.walrus_module_bodies.specs.walrus_module_env.walrus_body_parser.wasm_operators.wasm_features.declared.WasmFeatures.{WasmFeatures}
use Rattle.walrus_module_bodies.specs.walrus_functions_into.wasm_sections.Laws.{ReadsSections}
use Rattle.walrus_read_laws.specs.walrus_tables_into.walrus_sections_into.walrus_index_maps.Maps.{Ids, no_ids}
use Rattle.walrus_module_bodies.specs.walrus_functions_into.walrus_types_into.Into.{no_types}
use Rattle.walrus_read_laws.specs.walrus_tables_into.walrus_sections_into.walrus_known_sections.declared.sections.Sections.{Sections}
use Rattle.walrus_read_laws.specs.walrus_tables_into.walrus_sections_into.walrus_known_sections.State.{state_of}
use Rattle.walrus_module_bodies.specs.walrus_functions_into.Functions.{functions_from}
use Rattle.walrus_read_laws.specs.walrus_tables_into.walrus_sections_into.Becomes.{look_of}
use Rattle.walrus_read_laws.specs.walrus_tables_into.walrus_sections_into.Slots.{Filled, IsMemoryOf}
use Rattle.walrus_read_laws.specs.walrus_tables_into.walrus_sections_into.Imports.{IsImportOf}
use Rattle.walrus_read_laws.specs.walrus_tables_into.walrus_sections_into.Tags.{IsTagOf}
use Rattle.walrus_read_laws.specs.walrus_tables_into.walrus_sections_into.Exports.{IsExportOf, StartBecomes}
use Rattle.walrus_read_laws.specs.walrus_tables_into.walrus_sections_into.Segments.{AreHeld, IsSegmentOf}
use Rattle.walrus_read_laws.specs.walrus_tables_into.Tables.{IsTableOf}
use Rattle.walrus_read_laws.specs.walrus_tables_into.Globals.{IsGlobalOf}
use Rattle.walrus_read_laws.specs.walrus_tables_into.Elements.{IsElementOf}
use Rattle.walrus_read_laws.specs.walrus_tables_into.Customs.{IsCustomOf, plain}
use Rattle.walrus_module_bodies.specs.walrus_module_env.walrus_collections.walrus_module_items.declared.data.Data.{Data}
use Rattle.walrus_items_into.specs.Spaces.{Spaces}
use Rattle.walrus_items_into.specs.Numbers.{AreNumbersOf, numbers_of, types_in}

-- they are those of a file, which is so many bytes
abbrev pub AreRead : Sections → Type 0
AreRead s = (features : WasmFeatures) × (bytes : List ℕ) × All (λ b. b < 256) bytes × ReadsSections features bytes (state_of s)

-- what is left of them once their types are let go of
abbrev pub untyped : Sections → Sections
untyped s = record s { types = [] }

-- what is left of sections of a file, all of which these ids number
abbrev pub WereRead : Sections → Ids → Type 0
WereRead left i = (s : Sections) × (left ≡ untyped s) × AreRead s × (i ≡ numbers_of s)

module _ {B : Type 0} where
  -- nothing was there, and no number names anything
  pub record IsNew (i : Ids) (m : Spaces B) : Type 0 where
    pub numbers : i ≡ no_ids
    pub types : m.types ≡ no_types
    pub imports : m.imports.slots ≡ []
    pub functions : m.functions.slots ≡ []
    pub tables : m.tables.slots ≡ []
    pub memories : m.memories.slots ≡ []
    pub tags : m.tags.slots ≡ []
    pub globals : m.globals.slots ≡ []
    pub exports : m.exports.slots ≡ []
    pub elements : m.elements.slots ≡ []
    pub segments : m.segments.slots ≡ []
    pub customs : m.customs.slots ≡ []

  -- each number of the file names the item that it became: the types are those of the file in a new table, the functions have their types
  -- and no bodies, and the items of each other space fill its slots in the file's order, each the same, but that a name is an id; of the
  -- custom sections those that stay sections
  pub record IsFilledFrom (s : Sections) (begin : Option ℕ) (i : Ids) (m : Spaces B) : Type 0 where
    pub numbers : AreNumbersOf s i
    pub types : m.types ≡ (types_in s).table
    pub functions : m.functions.slots ≡ functions_from i.types 0 s.functions.items
    pub imports : Filled (IsImportOf (look_of i)) s.imports.items [] m.imports.slots
    pub tables : Filled (IsTableOf (look_of i)) s.tables.items [] m.tables.slots
    pub memories : Filled IsMemoryOf s.memories.items [] m.memories.slots
    pub tags : Filled (IsTagOf (look_of i)) s.tags.items [] m.tags.slots
    pub globals : Filled (IsGlobalOf (look_of i)) s.globals.items [] m.globals.slots
    pub exports : Filled (IsExportOf (look_of i)) s.exports.items [] m.exports.slots
    pub elements : Filled (IsElementOf (look_of i)) s.elements.items [] m.elements.slots
    pub segments : Filled (IsSegmentOf (look_of i)) s.segments.items [] m.segments.slots
    pub customs : Filled IsCustomOf (plain s.customs.items) [] m.customs.slots
    pub start : StartBecomes (look_of i) s.start begin

  -- so it is but for the bytes of its data segments: these would be the segments
  pub record IsHollowFrom (s : Sections) (begin : Option ℕ) (i : Ids) (m : Spaces B) : Type 0 where
    pub full : Arena Data
    pub held : AreHeld false full.slots m.segments.slots
    pub filled : IsFilledFrom s begin i (record m { segments = full })
