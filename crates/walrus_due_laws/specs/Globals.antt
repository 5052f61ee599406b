-- What is due for globals is the global section of the renamed ones.
use Rattle.std.specs.Prelude.{ℕ, List, Option}
use Rattle.std.specs.List.{filter_map}
use Rattle.wasm_features.specs.declared.WasmFeatures.{WasmFeatures}
use Rattle.wasm_operators.specs.Names.{Renaming}
use Rattle.wasm_grammar.specs.Modules.{Global}
use Rattle.wasm_sections.specs.Sections.{GlobalSection}
use Rattle.wasm_canonical.specs.Due.{own_global, section_if}
use Rattle.wasm_part.specs.Part.{renumbered_global}
use Rattle.walrus_pairing.specs.Looks.{Look}
use Rattle.walrus_emit_due.specs.Items.{globals}
use Rattle.walrus_due_laws.specs.Spelled.{Follows, SpelledAs, in_slots, spelled}

abbrev pub GlobalsAreSpelled : Type 0
GlobalsAreSpelled = (features : WasmFeatures) (r : Renaming) (brings : ℕ → ℕ) (look : Look) (slots : List (Option Global)) → Follows r look
    → SpelledAs (globals look slots) (spelled features (section_if GlobalSection (filter_map own_global (in_slots (renumbered_global r brings) slots))))
