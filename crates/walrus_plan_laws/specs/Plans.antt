-- The plan by which emission writes a module: of each index space first what imports bring, then the module's own items, each at the number that
-- emission gives it (Core Specification, indices).
use Rattle.std.specs.Prelude.{ℕ, suc, ◌==◌, is_none, List, [], ◌∷◌, ◌++◌, map, filter, Option, if◌then◌else◌}
use Rattle.std.specs.Option.{unwrap_or}
use Rattle.walrus_arena.specs.Arena.{entries_from}
use Rattle.walrus_index_maps.specs.Maps.{Indices}
use Rattle.walrus_pairing.specs.Looks.{number_of}
use Rattle.walrus_forms.specs.Records.{TypeGroup}
use Rattle.walrus_types.specs.declared.emit.EmittedTypes.{EmittedTypes}
use Rattle.walrus_types.specs.walrus_forms.Records.{type_group}
use Rattle.wasm_operators.specs.Items.{Space, Types, Functions, Tables, Memories, Tags, Globals, ElementSegments, DataSegments, Locals, Labels}
use Rattle.wasm_operators.specs.Names.{Renaming}
use Rattle.wasm_grammar.specs.Modules as grammar
use Rattle.wasm_part.specs.Order.{brought_by, import_of}
use Rattle.wasm_part.specs.Part.{Plan}
use Rattle.walrus_module.specs.declared.module.Module.{Module}
use Rattle.walrus_module.specs.Parts.{parts}
use Rattle.walrus_meaning.specs.Meaning.{means}
use Rattle.walrus_emit_numbers.specs.declared.facts.BodyFacts.{BodyFacts}
use Rattle.walrus_emit_numbers.specs.Numbers.{functions_at, numbers_of}

-- the numbers of the slots that are filled
abbrev pub living : {A : Type 0} → List (Option A) → List ℕ
living {A} slots = map (λ (e : ℕ × A). e.0) (entries_from 0 slots)

-- how many of these stand before a number
abbrev pub place_in : ℕ → List ℕ → ℕ
place_in n [] = 0
place_in n (m ∷ ms) = if m == n then 0 else suc (place_in n ms)

-- the new number of an item is that which it was given; labels aren't items, and locals have their numbers in their function
abbrev pub new_numbers : Indices → Renaming
new_numbers i Labels n = n
new_numbers i Locals n = n
new_numbers i space n = unwrap_or (number_of i 0 space n) 0

module _ (m : grammar.Module) where
  -- of the items of these numbers those that no import brings
  abbrev pub own_of : Space → List ℕ → List ℕ
  own_of space ns = filter (λ (n : ℕ). is_none (import_of m space n)) ns

  -- the module's own items in their order: functions as they are given, others by number
  abbrev pub own_in : List ℕ → Space → List ℕ
  own_in functions Functions = functions
  own_in functions Tables = own_of Tables (living m.tables)
  own_in functions Memories = own_of Memories (living m.memories)
  own_in functions Tags = own_of Tags (living m.tags)
  own_in functions Globals = own_of Globals (living m.globals)
  own_in functions ElementSegments = living m.elements
  own_in functions DataSegments = living m.segments
  own_in functions space = []

  -- all items in their order: types as they are given, of other spaces first what imports bring
  abbrev pub listed_in : List ℕ → List ℕ → Space → List ℕ
  listed_in types functions Types = types
  listed_in types functions space = brought_by m space (living m.imports) ++ own_in functions space

  -- the plan by these numbers, with these types in these groups, and functions with bodies in this order
  abbrev pub plan_by : Indices → List TypeGroup → List ℕ → List ℕ → Plan
  plan_by i groups types functions = record {
    renames = new_numbers i;
    brings = λ n. place_in n (living m.imports);
    groups = groups;
    listed = listed_in types functions;
    imports = living m.imports;
    exports = living m.exports;
    declared = [];
  }

-- the plan of a module, what is known of whose bodies stands in this order, and whose types are written so; it has the segment that declares
-- functions already
abbrev pub plan_of : {B : Type 0} → Module B → List BodyFacts → List ℕ → EmittedTypes → Plan
plan_of input facts order emitted =
    let functions = functions_at facts order in
    let types = emitted.ids.items in
    plan_by (means (parts input)) (numbers_of input types functions) (map type_group emitted.groups.items) types functions
