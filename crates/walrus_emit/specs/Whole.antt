-- A module as it is written (Core Specification, binary format: modules): its header, then one section behind another; empty ones are left out. Items are
-- named by their numbers; locals have theirs once the bodies are written.
use Rattle.std.specs.Prelude.{ℕ, Bool, true, false, List, [], ◌∷◌, ◌++◌, length, map, Option}
use Rattle.std.specs.List.{list_any}
use Rattle.std.specs.declared.ops.Range.{Range}
use Rattle.wasm_formats.specs.declared.fault.Limited.TheVariants.{Types}
use Rattle.wasm_grammar.specs.Modules.{Module as Meant}
use Rattle.walrus_arena.specs.Arena.{Arena}
use Rattle.walrus_customs.specs.Producers.{fields_of}
use Rattle.walrus_index_maps.specs.Maps.{Indices, no_indices}
use Rattle.walrus_meaning.specs.Meaning.{means}
use Rattle.walrus_module.specs.Parts.{parts}
use Rattle.walrus_module.specs.declared.module.Module.{Module}
use Rattle.walrus_module.specs.walrus_body_writer.walrus_pairing.Looks.{Look, number_of}
use Rattle.walrus_payload_writers.specs.Producers.{producers_section}
use Rattle.walrus_sections.specs.declared.section.Section.{Section}
use Rattle.walrus_types.specs.declared.emit.EmittedTypes.{EmittedTypes}
use Rattle.walrus_types.specs.walrus_forms.Records.{type_group}
use Rattle.walrus_emit_code.specs.Code.{bodies_numbers, code, facts_at}
use Rattle.walrus_emit_code.specs.Places as places
use Rattle.walrus_emit_code.specs.Places.{code_start, if_kept}
use Rattle.walrus_emit_customs.specs.Customs.{customs}
use Rattle.walrus_emit_customs.specs.Names.{names_due}
use Rattle.walrus_emit_numbers.specs.Numbers.{functions_at, numbers_of}
use Rattle.walrus_emit_numbers.specs.declared.facts.BodyFacts.{BodyFacts}
use Rattle.walrus_emit_parts.specs.Due.{Due, limited, written}
use Rattle.walrus_emit_due.specs.Items as items
use Rattle.walrus_emit_due.specs.Types.{type_section}
use Rattle.walrus_emit_due.specs.DataCount.{data_count}
use Rattle.walrus_emit_due.specs.Elements.{elements}
use Rattle.walrus_emit_due.specs.FunctionTypes.{function_types}
use Rattle.walrus_emit_due.specs.Imports.{imports}
use Rattle.walrus_emit_due.specs.Starts.{start}

-- `\0asm`, and the version
abbrev pub header : List ℕ
header = 0x00 ∷ 0x61 ∷ 0x73 ∷ 0x6d ∷ 0x01 ∷ 0x00 ∷ 0x00 ∷ 0x00 ∷ []

-- types, at most as many as a reader takes
abbrev pub types : EmittedTypes → Due
types emitted = limited 1000000 (length emitted.ids.items) Types (type_section (map type_group emitted.groups.items))

-- ---- the standard sections in front of code, of these types and functions with bodies

module _ (look : Look) (m : Meant) where
  -- types, imports, the types of functions
  abbrev pub front : EmittedTypes → List ℕ → Due
  front emitted functions = types emitted ++ (imports look m ++ function_types look m.functions functions)

  -- tables, memories, tags, globals, exports
  abbrev pub own_items : Due
  own_items = items.tables look m.tables ++ (items.memories m.memories ++ (items.tags look m.tags ++ (items.globals look m.globals ++ items.exports look m.exports)))

  -- the start function, element segments, how many data segments, which is asked for where a body names one
  abbrev pub uses : Bool → Due
  uses is_named = start look m.start ++ (elements look m.tables m.elements ++ data_count is_named m.segments)

  abbrev pub before_code : EmittedTypes → List ℕ → Bool → Due
  before_code emitted functions is_named = front emitted functions ++ (own_items ++ uses is_named)

-- ---- the sections behind code

-- where it is asked for
abbrev pub if_asked : Bool → Due → Due
if_asked true due = due
if_asked false due = []

module _ {B : Type 0} (input : Module B) where
  -- names and producers, as the flags say
  abbrev pub payloads : Due → Due
  payloads names =
      if_asked input.config.generate_name_section names
      ++ if_asked input.config.generate_producers_section (written (producers_section (fields_of input.producers)))

  abbrev pub behind_code : Look → Due → Due
  behind_code look names = items.segments look (means (parts input)).segments ++ payloads names

-- ---- numbers

-- the module; what is known of its bodies, and the positions of that in the order in which these stand
module _ {B : Type 0} (input : Module B) (facts : List BodyFacts) (order : List ℕ) where
  -- of its items, of which these types are written
  abbrev pub numbers : EmittedTypes → Indices
  numbers emitted = numbers_of input emitted.ids.items (functions_at facts order)

  -- with those of the locals, once the bodies are written
  abbrev pub with_bodies : Indices → Indices
  with_bodies i = bodies_numbers input.locals input.funcs i (facts_at facts order)

  -- where the operators of bodies stand that have a location, behind the beginning of the code section's contents, if places are kept
  abbrev pub locations : Indices → List (ℕ × ℕ)
  locations i = if_kept input.config.preserve_code_transform (places.locations input.locals input.funcs i (facts_at facts order))

  -- and the bodies
  abbrev pub ranges : Indices → List (ℕ × Range ℕ)
  ranges i = places.ranges input.locals input.funcs i (facts_at facts order)

  -- what stands behind code, where items and locals have these numbers
  abbrev pub closing : EmittedTypes → Indices → Due
  closing emitted i = behind_code input (number_of i 0) (names_due (parts input) emitted (facts_at facts order) i)

-- ---- all of it

-- custom sections are named by the one, and say what they hold by the other, given the numbers
module _ {B : Type 0} (own_name : B → List ℕ) (contents : B → Indices → Option (List ℕ)) where
  -- those that stand first, or the others, by rising id
  abbrev pub sections : (first : Bool) → Indices → Arena (Section B) → Due
  sections first i a = customs own_name (λ b. contents b i) first a

  -- the header, and the custom sections that stand first, which are given no numbers
  abbrev pub first : Arena (Section B) → Due
  first a = written header ++ sections true no_indices a

  -- the same module, and its types as they are written
  module _ (input : Module B) (facts : List BodyFacts) (order : List ℕ) (emitted : EmittedTypes) where
    -- what stands in front of code
    abbrev pub opening : Indices → Due
    opening i =
        first input.customs
        ++ before_code (number_of i 0) (means (parts input)) emitted (functions_at facts order) (list_any (λ (f : BodyFacts). f.uses_data_segments) facts)

    -- with code and what stands behind it, where items have these numbers
    abbrev pub standard : Indices → Due
    standard i = opening i ++ (code input.locals input.funcs i (facts_at facts order) ++ closing input facts order emitted (with_bodies input facts order i))

    -- and the other custom sections, as they are once a program's own were told where code stands
    abbrev pub whole : Arena (Section B) → Due
    whole told = standard (numbers input facts order emitted) ++ sections false (with_bodies input facts order (numbers input facts order emitted)) told

    -- where the contents of the code section begin; 0 where there is no body
    abbrev pub code_begin : Indices → ℕ
    code_begin i = code_start input.locals input.funcs i 0 (length (opening i)) (facts_at facts order)
