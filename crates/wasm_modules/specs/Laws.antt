-- Laws of modules.
use Rattle.std.specs.Prelude.{ℕ, ◌+◌, ◌-◌, ◌≤◌, ◌≡◌, ◌⊎◌, List, ◌++◌, length, Ok, Err}
use Rattle.wasm_features.specs.declared.WasmFeatures.{WasmFeatures}
use Rattle.wasm_formats.specs.Stops.{Trouble, Stop, stop}
use Rattle.wasm_formats.specs.Formats.{Small}
use Rattle.wasm_sections.specs.wasm_grammar.Modules.{Module}
use Rattle.wasm_sections.specs.wasm_grammar.States.{State}
use Rattle.wasm_body_grammar.specs.Codes.{StopsCodes}
use Rattle.wasm_sections.specs.Laws.{ReadsSections, StopsSections, FileIsCut}
use Rattle.wasm_modules.specs.Modules.{around, codes, code_left, IsShort, Reads, StopsAt, Stops, module_at}

-- bytes read as one module at most
abbrev pub ReadsOnce : Type 0
ReadsOnce = (features : WasmFeatures) (bytes : List ℕ) (m n : Module) → Reads features bytes m → Reads features bytes n → m ≡ n

-- what reads doesn't stop
abbrev pub ReadDontStop : Type 0
ReadDontStop = (features : WasmFeatures) (bytes : List ℕ) (m : Module) (trouble : Trouble) (place : ℕ) → Reads features bytes m → Stops features bytes trouble place → ⊥

-- what doesn't read stops, where the file isn't too long
abbrev pub ReadOrStop : Type 0
ReadOrStop = (features : WasmFeatures) (bytes : List ℕ) → Small bytes → IsShort bytes
    → ((m : Module) × Reads features bytes m) ⊎ ((trouble : Trouble) × (place : ℕ) × Stops features bytes trouble place)

-- with one fault, at one place
abbrev pub StopsOnce : Type 0
StopsOnce = (features : WasmFeatures) (bytes : List ℕ) (t u : Trouble) (p q : ℕ) → Stops features bytes t p → Stops features bytes u q → (t ≡ u) × (p ≡ q)

-- which lies in the bytes, or at their end
abbrev pub StopsInside : Type 0
StopsInside = (features : WasmFeatures) (bytes : List ℕ) (trouble : Trouble) (place : ℕ) → Stops features bytes trouble place → place ≤ length bytes

-- bytes behind a fault of the sections don't change it, unless the file ends too early
abbrev pub StopsForGood : Type 0
StopsForGood = (features : WasmFeatures) (bytes : List ℕ) (e : Stop) (place : ℕ) → Small bytes → StopsSections features bytes e → place + e.left ≡ length bytes
    → FileIsCut features bytes ⊎ ((more : List ℕ) → Small (bytes ++ more) → IsShort (bytes ++ more) → Stops features (bytes ++ more) e.trouble place)

-- a fault of a body is decided by the bodies and what is around them: another file whose sections leave the same stops for it at the same place,
-- counted from the function count, whatever else it holds
abbrev pub BodiesStopForGood : Type 0
BodiesStopForGood = (features : WasmFeatures) (bytes others : List ℕ) (s t : State) (e : Stop) (place : ℕ) → Small bytes → Small others → IsShort others
    → ReadsSections features bytes s → ReadsSections features others t → around features s ≡ around features t → codes s ≡ codes t
    → StopsCodes (around features s) (code_left bytes s) (codes s) e → place + e.left ≡ code_left bytes s → StopsAt features others (stop e.trouble (code_left others t - place))

-- what is parsed from left to right reads, or stops; and what reads or stops is parsed so
pub record ParsingReads : Type 0 where
  pub found : (features : WasmFeatures) (bytes : List ℕ) (m : Module) → Small bytes → IsShort bytes → module_at features bytes ≡ Ok m → Reads features bytes m
  pub again : (features : WasmFeatures) (bytes : List ℕ) (m : Module) → Reads features bytes m → module_at features bytes ≡ Ok m
  pub told : (features : WasmFeatures) (bytes : List ℕ) (e : Stop) → Small bytes → IsShort bytes → module_at features bytes ≡ Err e → StopsAt features bytes e
  pub tells : (features : WasmFeatures) (bytes : List ℕ) (e : Stop) → StopsAt features bytes e → module_at features bytes ≡ Err e
  pub within : (features : WasmFeatures) (bytes : List ℕ) (e : Stop) → Small bytes → StopsAt features bytes e → e.left ≤ length bytes
