-- The names of a module's items as they are written, each by the number of what it names (Core Specification, appendix Custom Sections: name section).
use Rattle.std.specs.Prelude.{ℕ, List, [], ◌∷◌, Option, Some, None, slice_get, slice_index_or, string_bytes}
use Rattle.std.specs.List.{flat_map}
use Rattle.std.specs.Option.{option_and_then, option_map}
use Rattle.std.specs.declared.alloc.Global.{Global as Allocator}
use Rattle.std.specs.declared.string.String.{String}
use Rattle.wasm_formats.specs.declared.fault.Space.{Space}
use Rattle.wasm_formats.specs.declared.fault.Space.TheVariants as spaces
use Rattle.wasm_name_payloads.specs.Written.{NameMap, Names}
use Rattle.walrus_arena.specs.Arena.{Arena}
use Rattle.walrus_index_maps.specs.Maps.{Indices}
use Rattle.walrus_items.specs.declared.local.Local.{Local}
use Rattle.walrus_module.specs.Parts.{Module}
use Rattle.walrus_module.specs.walrus_collections.LookUps.{items}
use Rattle.walrus_module.specs.walrus_module_items.declared.data.Data.{Data}
use Rattle.walrus_module.specs.walrus_module_items.declared.element.Element.{Element}
use Rattle.walrus_module.specs.walrus_module_items.declared.function.Function.{Function}
use Rattle.walrus_module.specs.walrus_module_items.declared.global.Global.{Global}
use Rattle.walrus_module.specs.walrus_module_items.declared.memory.Memory.{Memory}
use Rattle.walrus_module.specs.walrus_module_items.declared.table.Table.{Table}
use Rattle.walrus_module.specs.walrus_module_items.declared.tag.Tag.{Tag}
use Rattle.walrus_types.specs.Items.{Item}
use Rattle.walrus_types.specs.Table.{Table as Types, type_at}
use Rattle.walrus_types.specs.declared.emit.EmittedTypes.{EmittedTypes}
use Rattle.walrus_emit_numbers.specs.declared.facts.BodyFacts.{BodyFacts}
use Rattle.walrus_payload_writers.specs.Sections.{names_section}
use Rattle.walrus_emit_parts.specs.Due.{Due, written}
use Rattle.walrus_emit_customs.specs.Rising.{rising}

-- ---- entries

-- of what has a number and a name
abbrev pub entry : Option ℕ → Option (List ℕ) → NameMap
entry number None = []
entry None (Some name) = []
entry (Some n) (Some name) = (n, name) ∷ []

-- by rising number; those of one number stay in their order
abbrev pub by_number : NameMap → NameMap
by_number entries = rising (λ (e : ℕ × List ℕ). e.0) entries

-- ---- items of one kind

abbrev pub text : Option (String Allocator) → Option (List ℕ)
text name = option_map string_bytes name

abbrev pub item_entry : {T : Type 0} → (T → Option ℕ) → (T → Option (List ℕ)) → T → NameMap
item_entry number name x = entry (number x) (name x)

-- of those that live
abbrev pub item_names : {T : Type 0} → (T → Option ℕ) → (T → Option (List ℕ)) → Arena T → NameMap
item_names number name a = by_number (flat_map (item_entry number name) (items a))

abbrev pub type_name : Types → ℕ → Option (List ℕ)
type_name types id = option_and_then (λ (item : Item). item.name) (type_at types id)

abbrev pub type_entry : Types → EmittedTypes → ℕ → NameMap
type_entry types emitted id = entry (slice_index_or emitted.indices id None) (type_name types id)

-- in the order in which types are written
abbrev pub type_names : Types → EmittedTypes → NameMap
type_names types emitted = flat_map (type_entry types emitted) emitted.ids.items

-- ---- locals: those that a body names

abbrev pub local_name : List Local → ℕ → Option (List ℕ)
local_name locals id = option_and_then (λ (l : Local). text l.name) (slice_get locals id)

abbrev pub local_entry : List Local → Indices → (function id : ℕ) → NameMap
local_entry locals i function id = entry (i.locals function id) (local_name locals id)

abbrev pub used_names : List Local → Indices → BodyFacts → NameMap
used_names locals i body = by_number (flat_map (local_entry locals i body.function) body.used_locals.items)

-- of a function that has a number, if some of its locals have one
abbrev pub function_names : Option ℕ → NameMap → List (ℕ × NameMap)
function_names number [] = []
function_names None (e ∷ es) = []
function_names (Some n) (e ∷ es) = (n, e ∷ es) ∷ []

abbrev pub body_names : List Local → Indices → BodyFacts → List (ℕ × NameMap)
body_names locals i body = function_names (i.functions.number body.function) (used_names locals i body)

-- of these bodies, in their order
abbrev pub local_names : List Local → Indices → List BodyFacts → List (ℕ × NameMap)
local_names locals i bodies = flat_map (body_names locals i) bodies

-- ---- all of them

abbrev pub names_in : Module → EmittedTypes → Indices → Space → NameMap
names_in m types i spaces.Function = item_names (λ (f : Function). i.functions.number f.id) (λ (f : Function). text f.name) m.funcs
names_in m types i spaces.«Type» = type_names m.types types
names_in m types i spaces.Table = item_names (λ (t : Table). i.tables.number t.id) (λ (t : Table). text t.name) m.tables
names_in m types i spaces.Memory = item_names (λ (x : Memory). i.memories.number x.id) (λ (x : Memory). text x.name) m.memories
names_in m types i spaces.Global = item_names (λ (g : Global). i.globals.number g.id) (λ (g : Global). text g.name) m.globals
names_in m types i spaces.Element = item_names (λ (e : Element). i.elements.number e.id) (λ (e : Element). text e.name) m.elements
names_in m types i spaces.Data = item_names (λ (d : Data). i.segments.number d.id) (λ (d : Data). text d.name) m.data_segments
names_in m types i spaces.Tag = item_names (λ (t : Tag). i.tags.number t.id) (λ (t : Tag). text t.name) m.tags
names_in m types i spaces.Local = []
names_in m types i spaces.Label = []

-- of a module whose types are written so, which has these bodies
abbrev pub names : Module → EmittedTypes → List BodyFacts → Indices → Names
names m types bodies i = record { own = text m.name; items = names_in m types i; locals = local_names m.locals i bodies }

-- the section; nothing where there are no names
abbrev pub names_due : Module → EmittedTypes → List BodyFacts → Indices → Due
names_due m types bodies i = written (names_section (names m types bodies i))
