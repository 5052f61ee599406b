-- Ids that have their numbers in turn.
use Rattle.std.specs.Prelude.{ℕ, zero, suc, ◌+◌, ◌≤◌, ◌^◌, List, [], ◌∷◌, fold, map, slice_index, Option, Some, None, is_some, if◌then◌else◌}
use Rattle.walrus_index_maps.specs.Maps.{Indices, Numbering, next_numbered, no_indices, numbered}
use Rattle.walrus_module.specs.declared.module.Module.{Module}
use Rattle.walrus_module.specs.walrus_collections.LookUps.{items}
use Rattle.walrus_module_items.specs.declared.data.Data.{Data}
use Rattle.walrus_module_items.specs.declared.element.Element.{Element}
use Rattle.walrus_module_items.specs.declared.global.Global.{Global}
use Rattle.walrus_module_items.specs.declared.global.GlobalKind.{GlobalKind}
use Rattle.walrus_module_items.specs.declared.global.GlobalKind.TheVariants as globals
use Rattle.walrus_module_items.specs.declared.import.Import.{Import}
use Rattle.walrus_module_items.specs.declared.import.ImportKind.{ImportKind}
use Rattle.walrus_module_items.specs.declared.import.ImportKind.TheVariants as kinds
use Rattle.walrus_module_items.specs.declared.memory.Memory.{Memory}
use Rattle.walrus_module_items.specs.declared.table.Table.{Table}
use Rattle.walrus_module_items.specs.declared.tag.Tag.{Tag}
use Rattle.walrus_module_items.specs.declared.tag.TagKind.{TagKind}
use Rattle.walrus_module_items.specs.declared.tag.TagKind.TheVariants as tags
use Rattle.walrus_emit_numbers.specs.declared.facts.BodyFacts.{BodyFacts}

-- an id has the next number, unless it has one
abbrev pub in_turn : ℕ → Numbering → Numbering
in_turn id m = if is_some (m.number id) then m else next_numbered id m

abbrev pub one_if : Option ℕ → ℕ
one_if None = 0
one_if (Some n) = 1

-- how many of the ids below this one have a number
unfoldable pub numbered_below : (ℕ → Option ℕ) → ℕ → ℕ
numbered_below number zero = 0
numbered_below number (suc id) = one_if (number id) + numbered_below number id

-- no more numbers were given than there are ids that have one
pub record IsCounted (m : Numbering) : Type 0 where
  pub most : (count : ℕ) → 2 ^ 32 ≤ count → m.given ≤ numbered_below m.number count

-- the same of each space
pub record AreCounted (m : Indices) : Type 0 where
  pub types : IsCounted m.types
  pub functions : IsCounted m.functions
  pub tables : IsCounted m.tables
  pub memories : IsCounted m.memories
  pub tags : IsCounted m.tags
  pub globals : IsCounted m.globals
  pub elements : IsCounted m.elements

-- ---- items, each of which has the next number of its space

abbrev pub type_in_turn : Indices → ℕ → Indices
type_in_turn m id = record m { types = in_turn id m.types }

abbrev pub function_in_turn : Indices → ℕ → Indices
function_in_turn m id = record m { functions = in_turn id m.functions }

abbrev pub table_in_turn : Indices → ℕ → Indices
table_in_turn m id = record m { tables = in_turn id m.tables }

abbrev pub memory_in_turn : Indices → ℕ → Indices
memory_in_turn m id = record m { memories = in_turn id m.memories }

abbrev pub tag_in_turn : Indices → ℕ → Indices
tag_in_turn m id = record m { tags = in_turn id m.tags }

abbrev pub global_in_turn : Indices → ℕ → Indices
global_in_turn m id = record m { globals = in_turn id m.globals }

abbrev pub element_in_turn : Indices → ℕ → Indices
element_in_turn m id = record m { elements = in_turn id m.elements }

-- what an import brings
abbrev pub brought : Indices → ImportKind → Indices
brought m (kinds.Function id) = function_in_turn m id
brought m (kinds.Table id) = table_in_turn m id
brought m (kinds.Memory id) = memory_in_turn m id
brought m (kinds.Global id) = global_in_turn m id
brought m (kinds.Tag id) = tag_in_turn m id

abbrev pub import_in_turn : Indices → Import → Indices
import_in_turn m i = brought m i.kind

-- of items those that no import brings

abbrev pub own_table : Indices → Table → Indices
own_table m t = if is_some t.import then m else table_in_turn m t.id

abbrev pub own_memory : Indices → Memory → Indices
own_memory m t = if is_some t.import then m else memory_in_turn m t.id

abbrev pub own_tag : Indices → Tag → Indices
own_tag m t = by_kind t.kind
  where
    by_kind : TagKind → Indices
    by_kind (tags.Import import) = m
    by_kind tags.Local = tag_in_turn m t.id

abbrev pub own_global : Indices → Global → Indices
own_global m g = by_kind g.kind
  where
    by_kind : GlobalKind → Indices
    by_kind (globals.Import import) = m
    by_kind (globals.Local init) = global_in_turn m g.id

abbrev pub element_numbered : Indices → Element → Indices
element_numbered m e = element_in_turn m e.id

-- data segments, from this number on
abbrev pub data_from : ℕ → Indices → List Data → Indices
data_from next m [] = m
data_from next m (d ∷ ds) = data_from (next + 1) (record m { segments = numbered d.id next m.segments }) ds

-- ---- all of them

-- the functions of these facts, in this order
abbrev pub functions_at : List BodyFacts → List ℕ → List ℕ
functions_at facts order = map (λ (at : ℕ). slice_index (map (λ (f : BodyFacts). f.function) facts) at) order

-- types; what imports bring; functions with bodies; then what the module has itself, space by space
abbrev pub numbers_of : {B : Type 0} → Module B → List ℕ → List ℕ → Indices
numbers_of input types functions =
    let brought = fold import_in_turn (fold type_in_turn no_indices types) (items input.imports) in
    let tables = fold own_table (fold function_in_turn brought functions) (items input.tables) in
    let memories = fold own_memory tables (items input.memories) in
    let tags = fold own_tag memories (items input.tags) in
    let globals = fold own_global tags (items input.globals) in
    let elements = fold element_numbered globals (items input.elements) in
    data_from 0 elements (items input.data_segments)
