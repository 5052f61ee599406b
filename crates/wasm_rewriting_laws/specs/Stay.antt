-- What is written of a file has its types merged: read again, each of them stands for itself, and its group stays as it is.
use Rattle.std.specs.Prelude.{ℕ, ◌≡◌, ◌<◌, Bool, List, Option, length}
use Rattle.walrus_forms.specs.Renaming.{at}
use Rattle.wasm_features.specs.declared.WasmFeatures.{WasmFeatures}
use Rattle.wasm_grammar.specs.States.{types_of}
use Rattle.wasm_merged_modules.specs.Merged.{ids_of, kept_of}
use Rattle.wasm_rewritten.specs.Rewritten.{Rewritten}

abbrev pub WrittenTypesStay : Type 0
WrittenTypesStay = (place : Option ℕ → ℕ) (names producers keep : Bool) (features : WasmFeatures) (input bytes : List ℕ) (places : Option (List (ℕ × ℕ)))
    (w : Rewritten place names producers keep features input bytes places) → (kept_of w.n.groups ≡ w.n.groups) × ((k : ℕ) → k < length (types_of w.n) → at (ids_of w.n.groups) k ≡ k)
