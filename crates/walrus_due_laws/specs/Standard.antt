-- The standard sections of a part that has all that lives, code aside, are what is due for the module by its plan's numbers.
use Rattle.std.specs.Prelude.{ℕ, ◌≡◌, Bool, List, [], ◌++◌, length, map, Some, IsSome}
use Rattle.std.specs.List.{AllByRecursion, filter_map, list_any}
use Rattle.wasm_features.specs.declared.WasmFeatures.{WasmFeatures}
use Rattle.wasm_operators.specs.Items.{Functions, Tables, DataSegments}
use Rattle.wasm_grammar.specs.Modules.{Function, Module}
use Rattle.wasm_body_grammar.specs.Codes.{own_type}
use Rattle.wasm_import_links.specs.Links.{ImportsLink}
use Rattle.wasm_sections.specs.Sections.{TypeSection, ImportSection, FunctionSection, TableSection, MemorySection, TagSection, GlobalSection, ExportSection, ElementSection, DataSection, SectionEntry}
use Rattle.wasm_section_bytes.specs.Flags.{entry_of_element, entry_of_segment}
use Rattle.wasm_ruled_modules.specs.Rules.{table_wide}
use Rattle.wasm_module_bytes.specs.Bytes.{without_places}
use Rattle.wasm_module_bytes.specs.Due.{export_from, group_from}
use Rattle.wasm_canonical.specs.Due.{body_names_segment, code_if, count_if, counts_data, import_due, items_in, own_global, own_memory, own_table, own_tag, section_if, standard_due, start_if}
use Rattle.wasm_part.specs.Closed.{Rise}
use Rattle.wasm_part.specs.Order.{InOrder}
use Rattle.wasm_part.specs.Part.{Plan, part}
use Rattle.walrus_pairing.specs.Looks.{Look}
use Rattle.walrus_emit_parts.specs.Due.{Due}
use Rattle.walrus_emit_due.specs.DataCount.{data_count}
use Rattle.walrus_emit_due.specs.Elements.{elements}
use Rattle.walrus_emit_due.specs.FunctionTypes.{function_types}
use Rattle.walrus_emit_due.specs.Imports.{imports}
use Rattle.walrus_emit_due.specs.Items.{exports, globals, memories, segments, tables, tags}
use Rattle.walrus_emit_due.specs.Slots.{live_at}
use Rattle.walrus_emit_due.specs.Starts.{start}
use Rattle.walrus_due_laws.specs.FunctionTypes.{HaveBodies}
use Rattle.walrus_due_laws.specs.Listed.{LivingAreListed}
use Rattle.walrus_due_laws.specs.Spelled.{Follows, SpelledAs, spelled}

-- ---- the standard sections, by where code stands

-- types, imports, the types of functions; items; what uses them
abbrev pub before_code : Module → List SectionEntry
before_code n =
    (section_if TypeSection (map group_from n.groups)
    ++ (section_if ImportSection (map (import_due n) (items_in n.imports)) ++ section_if FunctionSection (filter_map own_type n.functions)))
    ++ ((section_if TableSection (filter_map own_table n.tables)
    ++ (section_if MemorySection (filter_map own_memory n.memories)
    ++ (section_if TagSection (filter_map own_tag n.tags)
    ++ (section_if GlobalSection (filter_map own_global n.globals) ++ section_if ExportSection (map export_from (items_in n.exports))))))
    ++ (start_if n.start
    ++ (section_if ElementSection (map (entry_of_element (table_wide n.tables)) (items_in n.elements)) ++ count_if (counts_data n) (length n.segments))))

abbrev pub behind_code : Module → List SectionEntry
behind_code n = section_if DataSection (map entry_of_segment (items_in n.segments))

-- so they are all, and places don't show in them
pub record StandardIsAround : Type 0 where
  pub standard : (bodies : List (List ℕ)) (n : Module) → standard_due bodies (counts_data n) n ≡ before_code n ++ (code_if bodies ++ behind_code n)
  pub unplaced : (n : Module) → before_code (without_places n) ≡ before_code n

-- ---- what is due there

-- with this for the types, these functions with bodies, and whether a body names a data segment
abbrev pub due_before : Due → Look → Module → List ℕ → Bool → Due
due_before types look m functions named =
    (types ++ (imports look m ++ function_types look m.functions functions))
    ++ ((tables look m.tables ++ (memories m.memories ++ (tags look m.tags ++ (globals look m.globals ++ exports look m.exports))))
    ++ (start look m.start ++ (elements look m.tables m.elements ++ data_count named m.segments)))

-- the look-up has the plan's numbers, by which all that lives is listed in its order
pub record ServesBy (look : Look) (p : Plan) (m : Module) : Type 0 where
  pub follows : Follows p.renames look
  pub numbered : (id n : ℕ) → look Tables id ≡ Some n → IsSome (live_at m.tables id)
  pub linked : ImportsLink m
  pub order : InOrder m p
  pub lives : LivingAreListed p m
  pub exports : Rise p.exports
  pub bodies : HaveBodies m.functions (order.own Functions)
  pub segments : AllByRecursion (λ (id : ℕ). IsSome (live_at m.segments id)) (p.listed DataSegments)
  -- no segment is added
  pub declared : p.declared ≡ []

-- a body of the module names a data segment
abbrev pub names_segments : Module → Bool
names_segments n = list_any (λ (f : Function). body_names_segment f.origin) (items_in n.functions)

pub record PartIsSpelled (features : WasmFeatures) (look : Look) (p : Plan) (m : Module) (functions : List ℕ) (types : Due) (named : Bool) : Type 0 where
  pub before : SpelledAs (due_before types look m functions named) (spelled features (before_code (part p m)))
  pub behind : SpelledAs (segments look m.segments) (spelled features (behind_code (part p m)))

abbrev pub PartsAreSpelled : Type 0
PartsAreSpelled = (features : WasmFeatures) (look : Look) (p : Plan) (m : Module) (serves : ServesBy look p m) (types : Due) (named : Bool)
    → SpelledAs types (spelled features (section_if TypeSection (map group_from p.groups))) → named ≡ names_segments (part p m)
    → PartIsSpelled features look p m (serves.order.own Functions) types named
