-- What has a number in a file, as maps from indices to ids say it.
use Rattle.std.specs.Prelude.{ℕ, ◌≡◌, List, [], length, Option, Some, None, slice_get}
use Rattle.walrus_index_maps.specs.Maps.{Ids}
use Rattle.wasm_formats.specs.declared.fault.Space.{Space}
use Rattle.wasm_formats.specs.declared.fault.Space.TheVariants as spaces
use Rattle.wasm_body_grammar.specs.wasm_grammar.Modules.{Module}
use Rattle.wasm_body_grammar.specs.wasm_grammar.States.{count_of}
use Rattle.walrus_payload_readers.specs.wasm_name_payloads.Names.{local_count}

-- the ids of a space, by the numbers of their items
abbrev pub ids_in : Ids → Space → List ℕ
ids_in ids spaces.«Type» = ids.types
ids_in ids spaces.Function = ids.functions
ids_in ids spaces.Table = ids.tables
ids_in ids spaces.Memory = ids.memories
ids_in ids spaces.Tag = ids.tags
ids_in ids spaces.Global = ids.globals
ids_in ids spaces.Element = ids.elements
ids_in ids spaces.Data = ids.segments
ids_in ids _ = []

abbrev pub locals_of : Ids → Option ℕ → List ℕ
locals_of ids None = []
locals_of ids (Some id) = ids.locals id

-- the ids of the locals of a function, by their numbers
abbrev pub locals_in : Ids → ℕ → List ℕ
locals_in ids function = locals_of ids (slice_get ids.functions function)

-- the maps number what the module has: as many items in each space, and as many locals in each function
pub record IsNumbered (m : Module) (ids : Ids) : Type 0 where
  pub items : (space : Space) → count_of m space ≡ length (ids_in ids space)
  pub locals : (function : ℕ) → local_count m function ≡ length (locals_in ids function)
