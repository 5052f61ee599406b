-- What is written of a file is told by the file: bytes and pairs of places; and the bytes whatever padding the file's numbers have.
use Rattle.std.specs.Prelude.{ℕ, ◌≡◌, Bool, List, Option, Some}
use Rattle.wasm_features.specs.declared.WasmFeatures.{WasmFeatures}
use Rattle.wasm_formats.specs.Formats.{Small}
use Rattle.wasm_grammar.specs.Modules.{Body, Module}
use Rattle.wasm_body_grammar.specs.Codes.{ReadsCodes}
use Rattle.wasm_sections.specs.Modules.{FileEntry, file, state_of}
use Rattle.wasm_modules.specs.Modules.{Reads, around, codes}
use Rattle.wasm_module_bytes.specs.Bytes.{module_bytes, without_places}
use Rattle.wasm_rewritten.specs.Rewritten.{Rewritten}

-- what bytes are rewritten to, with the same choices, is told by them: bytes and, where they are wanted, places
abbrev pub RewritingIsTold : Type 0
RewritingIsTold = (place : Option ℕ → ℕ) (names producers keep : Bool) (features : WasmFeatures) (input bytes others : List ℕ) (places pairs : Option (List (ℕ × ℕ)))
    → Rewritten place names producers keep features input bytes places → Rewritten place names producers keep features input others pairs
    → (bytes ≡ others) × ((ps qs : List (ℕ × ℕ)) → places ≡ Some ps → pairs ≡ Some qs → ps ≡ qs)

-- they read as one module, places of operators aside
abbrev pub ReadAlike : WasmFeatures → List ℕ → List ℕ → Type 0
ReadAlike features a b = (m : Module) × (n : Module) × Reads features a m × Reads features b n × (without_places m ≡ without_places n)

-- what two such inputs are rewritten to is equal
abbrev pub AlikeAreRewrittenAlike : Type 0
AlikeAreRewrittenAlike = (place : Option ℕ → ℕ) (names producers keep : Bool) (features : WasmFeatures) (a b bytes others : List ℕ) (places pairs : Option (List (ℕ × ℕ))) → ReadAlike features a b
    → Rewritten place names producers keep features a bytes places → Rewritten place names producers keep features b others pairs → bytes ≡ others

-- the bytes have these sections and bodies, and so have the shortest, in which each entry has its shortest spelling
pub record IsShortened (features : WasmFeatures) (bytes shortest : List ℕ) : Type 0 where
  pub sections : FileEntry
  pub bodies : List Body
  pub spelled : (file features).spells bytes sections
  pub ruled : (file features).rules sections
  pub read : ReadsCodes (around features (state_of sections)) (codes (state_of sections)) bodies
  pub is : shortest ≡ module_bytes features sections bodies

-- they come to the same when no number is padded any more, and sizes are adjusted
abbrev pub DifferInPadding : WasmFeatures → List ℕ → List ℕ → Type 0
DifferInPadding features a b = (shortest : List ℕ) × IsShortened features a shortest × IsShortened features b shortest

-- so padding doesn't show
abbrev pub PaddingIsDropped : Type 0
PaddingIsDropped = (place : Option ℕ → ℕ) (names producers keep : Bool) (features : WasmFeatures) (a b bytes others : List ℕ) (places pairs : Option (List (ℕ × ℕ))) → Small a → Small b
    → DifferInPadding features a b → Rewritten place names producers keep features a bytes places → Rewritten place names producers keep features b others pairs → bytes ≡ others
