-- The entries that are due to a module that meets the rules meet those of their sections at some state: their flags, kinds and other single bytes are those of a
-- form, and what they name is there.
use Rattle.std.specs.Prelude.{Bool, map}
use Rattle.std.specs.List.{filter_map}
use Rattle.wasm_features.specs.declared.WasmFeatures.{WasmFeatures}
use Rattle.wasm_grammar.specs.Modules.{Module}
use Rattle.wasm_sections.specs.Entities.{global_entry, import_entry, memory_entry, table_entry}
use Rattle.wasm_sections.specs.Exports.{export_entry}
use Rattle.wasm_sections.specs.TypeSection.{group}
use Rattle.wasm_module_bytes.specs.Due.{export_from, group_from}
use Rattle.wasm_module_rules.specs.Entries.{AllRuled}
use Rattle.wasm_module_spellings.specs.Spelled.{IsFormed}
use Rattle.wasm_ruled_modules.specs.Rules.{IsRuled}
use Rattle.wasm_canonical.specs.Due.{import_due, items_in, own_global, own_memory, own_table}
use Rattle.wasm_canonical.specs.Dense.{IsDense}

pub record EntriesFormed (features : WasmFeatures) (m : Module) : Type 0 where
  pub groups : AllRuled (IsFormed (group features)) (map group_from m.groups)
  pub imports : AllRuled (IsFormed (import_entry features)) (map (import_due m) (items_in m.imports))
  pub tables : AllRuled (IsFormed (table_entry features)) (filter_map own_table m.tables)
  pub memories : AllRuled (IsFormed memory_entry) (filter_map own_memory m.memories)
  pub globals : AllRuled (IsFormed (global_entry features)) (filter_map own_global m.globals)
  pub exports : AllRuled (IsFormed export_entry) (map export_from (items_in m.exports))

abbrev pub DueEntriesAreFormed : Type 0
DueEntriesAreFormed = (features : WasmFeatures) (counted : Bool) (m : Module) → IsDense m → IsRuled features counted m → EntriesFormed features m
