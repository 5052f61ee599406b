-- The contents of the sections that are due to a module are within the limits of the format where its items are, one by one.
use Rattle.std.specs.Prelude.{ℕ, ◌<◌, ◌≤◌, ◌^◌, Bool, List, length, map, Option, Some, None}
use Rattle.std.specs.List.{AllByRecursion, filter_map}
use Rattle.wasm_features.specs.declared.WasmFeatures.{WasmFeatures}
use Rattle.wasm_format_bytes.specs.Lists.{followed_writer}
use Rattle.wasm_grammar.specs.Modules.{Custom, Module}
use Rattle.wasm_grammar.specs.States.{nothing_yet}
use Rattle.wasm_grammar_bytes.specs.Values.{name_writer}
use Rattle.wasm_body_grammar.specs.Codes.{own_type}
use Rattle.wasm_section_bytes.specs.Entries.{export_writer, function_writer, global_writer, import_writer, memory_writer, start_writer, table_writer, tag_writer}
use Rattle.wasm_section_bytes.specs.Flags.{entry_of_element, entry_of_segment}
use Rattle.wasm_section_bytes.specs.Placed.{group_placed}
use Rattle.wasm_section_bytes.specs.Sections.{rest_writer}
use Rattle.wasm_section_bytes.specs.Segments.{data_writer, element_writer}
use Rattle.wasm_module_bytes.specs.Due.{export_from, group_from}
use Rattle.wasm_ruled_modules.specs.Rules.{IsCounted, table_wide}
use Rattle.wasm_canonical.specs.Due.{import_due, items_in, own_global, own_memory, own_table, own_tag, sections_due}
use Rattle.wasm_canonical.specs.Formed.{AreNotLong}
use Rattle.wasm_canonical.specs.Sizes.{ContentsFit}

abbrev pub StartFits : Option ℕ → Type 0
StartFits None = Unit {0}
StartFits (Some n) = (start_writer nothing_yet).fits n

-- the state doesn't matter: writers look at it for their rules alone
pub record DueEntriesFit (features : WasmFeatures) (first last : List Custom) (m : Module) : Type 0 where
  pub first_customs : AllByRecursion (λ (c : Custom). (followed_writer name_writer (λ _. rest_writer)).fits (c.name, c.bytes)) first
  pub last_customs : AllByRecursion (λ (c : Custom). (followed_writer name_writer (λ _. rest_writer)).fits (c.name, c.bytes)) last
  pub few_groups : length m.groups < 2 ^ 32
  pub groups : AllByRecursion (group_placed features).fits (map group_from m.groups)
  pub imports : AllByRecursion (import_writer features nothing_yet).fits (map (import_due m) (items_in m.imports))
  pub functions : AllByRecursion (function_writer nothing_yet).fits (filter_map own_type m.functions)
  pub tables : AllByRecursion (table_writer features nothing_yet).fits (filter_map own_table m.tables)
  pub memories : AllByRecursion (memory_writer nothing_yet).fits (filter_map own_memory m.memories)
  pub tags : AllByRecursion (tag_writer nothing_yet).fits (filter_map own_tag m.tags)
  pub globals : AllByRecursion (global_writer features nothing_yet).fits (filter_map own_global m.globals)
  pub exports : AllByRecursion (export_writer nothing_yet).fits (map export_from (items_in m.exports))
  pub start : StartFits m.start
  pub elements : AllByRecursion (element_writer features nothing_yet).fits (map (entry_of_element (table_wide m.tables)) (items_in m.elements))
  pub segments : AllByRecursion (data_writer features nothing_yet).fits (map entry_of_segment (items_in m.segments))

abbrev pub DueContentsFit : Type 0
DueContentsFit = (features : WasmFeatures) (bodies : List (List ℕ)) (counted : Bool) (first last : List Custom) (m : Module) → IsCounted m → DueEntriesFit features first last m → AreNotLong bodies
    → length bodies ≤ 1000000 → ContentsFit features nothing_yet (sections_due bodies counted first last m)
