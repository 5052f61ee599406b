-- What is due for tables is the table section of the renamed ones.
use Rattle.std.specs.Prelude.{ℕ, List, Option}
use Rattle.std.specs.List.{filter_map}
use Rattle.wasm_features.specs.declared.WasmFeatures.{WasmFeatures}
use Rattle.wasm_operators.specs.Names.{Renaming}
use Rattle.wasm_grammar.specs.Modules.{Table}
use Rattle.wasm_sections.specs.Sections.{TableSection}
use Rattle.wasm_canonical.specs.Due.{own_table, section_if}
use Rattle.wasm_part.specs.Part.{renumbered_table}
use Rattle.walrus_pairing.specs.Looks.{Look}
use Rattle.walrus_emit_due.specs.Items.{tables}
use Rattle.walrus_due_laws.specs.Spelled.{Follows, SpelledAs, in_slots, spelled}

abbrev pub TablesAreSpelled : Type 0
TablesAreSpelled = (features : WasmFeatures) (r : Renaming) (brings : ℕ → ℕ) (look : Look) (slots : List (Option Table)) → Follows r look
    → SpelledAs (tables look slots) (spelled features (section_if TableSection (filter_map own_table (in_slots (renumbered_table r brings) slots))))
