-- What is due for data segments is the data section of the renamed ones.
use Rattle.std.specs.Prelude.{List, map, Option}
use Rattle.wasm_features.specs.declared.WasmFeatures.{WasmFeatures}
use Rattle.wasm_operators.specs.Names.{Renaming}
use Rattle.wasm_grammar.specs.Modules.{Segment}
use Rattle.wasm_sections.specs.Sections.{DataSection}
use Rattle.wasm_section_bytes.specs.Flags.{entry_of_segment}
use Rattle.wasm_canonical.specs.Due.{items_in, section_if}
use Rattle.wasm_part.specs.Part.{renumbered_segment}
use Rattle.walrus_pairing.specs.Looks.{Look}
use Rattle.walrus_emit_due.specs.Items.{segments}
use Rattle.walrus_due_laws.specs.Spelled.{Follows, SpelledAs, in_slots, spelled}

abbrev pub SegmentsAreSpelled : Type 0
SegmentsAreSpelled = (features : WasmFeatures) (r : Renaming) (look : Look) (slots : List (Option Segment)) → Follows r look
    → SpelledAs (segments look slots) (spelled features (section_if DataSection (map entry_of_segment (items_in (in_slots (renumbered_segment r) slots)))))
