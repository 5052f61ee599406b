-- What is due for element segments is the element section of the renamed ones.
use Rattle.std.specs.Prelude.{ℕ, ◌≡◌, not, List, map, Option, Some}
use Rattle.wasm_features.specs.declared.WasmFeatures.{WasmFeatures}
use Rattle.wasm_operators.specs.Items.{Tables}
use Rattle.wasm_operators.specs.Names.{Renaming}
use Rattle.wasm_grammar.specs.Modules.{Element, Table}
use Rattle.wasm_sections.specs.Sections.{ElementSection}
use Rattle.wasm_section_bytes.specs.Flags.{entry_of_element}
use Rattle.wasm_ruled_modules.specs.Rules.{table_wide}
use Rattle.wasm_canonical.specs.Due.{items_in, section_if}
use Rattle.wasm_part.specs.Part.{renumbered_element}
use Rattle.walrus_pairing.specs.Looks.{Look}
use Rattle.walrus_emit_due.specs.Elements.{elements, is_narrow}
use Rattle.walrus_emit_due.specs.Slots.{live_at}
use Rattle.walrus_due_laws.specs.Spelled.{Follows, SpelledAs, in_slots, spelled}

-- the table that gets the number 0 has addresses of 32 bits just where the first of the new ones has
abbrev pub FirstIsAlike : Look → (olds news : List (Option Table)) → Type 0
FirstIsAlike look olds news = (id : ℕ) → look Tables id ≡ Some 0 → is_narrow (live_at olds id) ≡ not (table_wide news 0)

abbrev pub ElementsAreSpelled : Type 0
ElementsAreSpelled = (features : WasmFeatures) (r : Renaming) (look : Look) (olds news : List (Option Table)) (slots : List (Option Element)) → Follows r look → FirstIsAlike look olds news
    → SpelledAs (elements look olds slots) (spelled features (section_if ElementSection (map (entry_of_element (table_wide news)) (items_in (in_slots (renumbered_element r) slots)))))
