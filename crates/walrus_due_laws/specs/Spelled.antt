-- What is due for sections, and their shortest spelling.
use Rattle.std.specs.Prelude.{ℕ, ◌≡◌, ◌++◌, List, map, Option, Some}
use Rattle.std.specs.List.{flat_map}
use Rattle.std.specs.Option.{option_map}
use Rattle.wasm_features.specs.declared.WasmFeatures.{WasmFeatures}
use Rattle.wasm_operators.specs.Items.{Space}
use Rattle.wasm_operators.specs.Names.{Renaming}
use Rattle.wasm_grammar.specs.States.{nothing_yet}
use Rattle.wasm_sections.specs.Modules.{magic}
use Rattle.wasm_sections.specs.Sections.{SectionEntry}
use Rattle.wasm_section_bytes.specs.Files.{entry_bytes, file_bytes}
use Rattle.walrus_pairing.specs.Looks.{Look}
use Rattle.walrus_emit_parts.specs.Due.{Due, written}

-- where all that is due can be written, its bytes are these
abbrev pub SpelledAs : Due → List ℕ → Type 0
SpelledAs due spelling = (bytes : List ℕ) → due ≡ written bytes → bytes ≡ spelling

-- what has a number is renamed to that number
abbrev pub Follows : Renaming → Look → Type 0
Follows r look = (space : Space) (id n : ℕ) → look space id ≡ Some n → r space id ≡ n

-- each item of these slots, changed
abbrev pub in_slots : {A : Type 0} → (A → A) → List (Option A) → List (Option A)
in_slots f slots = map (option_map f) slots

-- sections in their shortest spelling, one behind the other
abbrev pub spelled : WasmFeatures → List SectionEntry → List ℕ
spelled features entries = flat_map (entry_bytes features nothing_yet) entries

-- the bytes of a file's sections are those of each of them alone, wherever it stands
abbrev pub FilesAreSpelled : Type 0
FilesAreSpelled = (features : WasmFeatures) (entries : List SectionEntry) → file_bytes features (tt, entries) ≡ magic ++ spelled features entries
