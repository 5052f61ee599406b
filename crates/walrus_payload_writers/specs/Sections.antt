-- The section `name` as it is written.
use Rattle.std.specs.Prelude.{ℕ, List, [], ◌∷◌, Option, Some, None}
use Rattle.std.specs.List.{flat_map}
use Rattle.std.specs.Borrow.{Bor}
use Rattle.wasm_formats.specs.declared.fault.Space.{Space}
use Rattle.wasm_formats.specs.declared.fault.Space.TheVariants as spaces
use Rattle.wasm_name_payloads.specs.Names.{section_name}
use Rattle.wasm_name_payloads.specs.Written as written
use Rattle.wasm_name_payloads.specs.Written.{NameMap, item_part, later_spaces, payload_bytes}
use Rattle.walrus_payload_writers.specs.Writes.{custom_bytes}
use Rattle.walrus_payload_writers.specs.Names.{entries_of, functions_of}
use Rattle.walrus_payload_writers.specs.declared.names.Names.{Names}

abbrev pub own_of : Option (Bor (List ℕ)) → Option (List ℕ)
own_of (Some name) = Some name.now
own_of None = None

abbrev pub items_of : Names → Space → NameMap
items_of n spaces.Function = entries_of n.functions.items
items_of n spaces.Type = entries_of n.types.items
items_of n spaces.Table = entries_of n.tables.items
items_of n spaces.Memory = entries_of n.memories.items
items_of n spaces.Global = entries_of n.globals.items
items_of n spaces.Element = entries_of n.elements.items
items_of n spaces.Data = entries_of n.data_segments.items
items_of n spaces.Tag = entries_of n.tags.items
items_of n spaces.Local = []
items_of n spaces.Label = []

abbrev pub names_of : Names → written.Names
names_of n = record { own = own_of n.own; items = items_of n; locals = functions_of n.locals.items }

-- the subsections behind that of locals
abbrev pub later_parts : Names → List Space → List ℕ
later_parts n list = flat_map (λ space. item_part space (items_of n space)) list

-- nothing where there are no names
abbrev pub section_of : List ℕ → List ℕ
section_of [] = []
section_of (b ∷ payload) = custom_bytes section_name (b ∷ payload)

abbrev pub names_section : written.Names → List ℕ
names_section n = section_of (payload_bytes n)
