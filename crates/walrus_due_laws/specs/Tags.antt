-- What is due for tags is the tag section of the renamed ones.
use Rattle.std.specs.Prelude.{ℕ, List, Option}
use Rattle.std.specs.List.{filter_map}
use Rattle.wasm_features.specs.declared.WasmFeatures.{WasmFeatures}
use Rattle.wasm_operators.specs.Names.{Renaming}
use Rattle.wasm_grammar.specs.Modules.{Tag}
use Rattle.wasm_sections.specs.Sections.{TagSection}
use Rattle.wasm_canonical.specs.Due.{own_tag, section_if}
use Rattle.wasm_part.specs.Part.{renumbered_tag}
use Rattle.walrus_pairing.specs.Looks.{Look}
use Rattle.walrus_emit_due.specs.Items.{tags}
use Rattle.walrus_due_laws.specs.Spelled.{Follows, SpelledAs, in_slots, spelled}

abbrev pub TagsAreSpelled : Type 0
TagsAreSpelled = (features : WasmFeatures) (r : Renaming) (brings : ℕ → ℕ) (look : Look) (slots : List (Option Tag)) → Follows r look
    → SpelledAs (tags look slots) (spelled features (section_if TagSection (filter_map own_tag (in_slots (renumbered_tag r brings) slots))))
