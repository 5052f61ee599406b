-- What is due for exports is the export section of the renamed ones.
use Rattle.std.specs.Prelude.{List, map, Option}
use Rattle.wasm_features.specs.declared.WasmFeatures.{WasmFeatures}
use Rattle.wasm_operators.specs.Names.{Renaming}
use Rattle.wasm_grammar.specs.Modules.{Export}
use Rattle.wasm_sections.specs.Sections.{ExportSection}
use Rattle.wasm_module_bytes.specs.Due.{export_from}
use Rattle.wasm_canonical.specs.Due.{items_in, section_if}
use Rattle.wasm_part.specs.Part.{renumbered_export}
use Rattle.walrus_pairing.specs.Looks.{Look}
use Rattle.walrus_emit_due.specs.Items.{exports}
use Rattle.walrus_due_laws.specs.Spelled.{Follows, SpelledAs, in_slots, spelled}

abbrev pub ExportsAreSpelled : Type 0
ExportsAreSpelled = (features : WasmFeatures) (r : Renaming) (look : Look) (slots : List (Option Export)) → Follows r look
    → SpelledAs (exports look slots) (spelled features (section_if ExportSection (map export_from (items_in (in_slots (renumbered_export r) slots)))))
