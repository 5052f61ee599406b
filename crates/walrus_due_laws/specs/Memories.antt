-- What is due for memories is the memory section of them, since they name nothing.
use Rattle.std.specs.Prelude.{ℕ, List, Option}
use Rattle.std.specs.List.{filter_map}
use Rattle.wasm_features.specs.declared.WasmFeatures.{WasmFeatures}
use Rattle.wasm_operators.specs.Names.{Renaming}
use Rattle.wasm_grammar.specs.Modules.{Memory}
use Rattle.wasm_sections.specs.Sections.{MemorySection}
use Rattle.wasm_canonical.specs.Due.{own_memory, section_if}
use Rattle.wasm_part.specs.Part.{renumbered_memory}
use Rattle.walrus_emit_due.specs.Items.{memories}
use Rattle.walrus_due_laws.specs.Spelled.{SpelledAs, in_slots, spelled}

abbrev pub MemoriesAreSpelled : Type 0
MemoriesAreSpelled = (features : WasmFeatures) (r : Renaming) (brings : ℕ → ℕ) (slots : List (Option Memory))
    → SpelledAs (memories slots) (spelled features (section_if MemorySection (filter_map own_memory (in_slots (renumbered_memory r brings) slots))))
