-- Items one by one.
use Rattle.std.specs.Prelude.{ℕ, ◌-◌, ◌<◌, ◌≡◌, Bool, List, Option, Some, None, Result, Ok, Err}
use Rattle.wasm_features.specs.declared.WasmFeatures.{WasmFeatures}
use Rattle.wasm_reader.specs.declared.error.Error.{Error}
use Rattle.wasm_reader.specs.Cursor.{Cursor}
use Rattle.wasm_reader.specs.Reading.{Reading, plain}
use Rattle.wasm_reader.specs.Items.{ReadsBy, passed_at}

-- how many items are to come behind one: none behind a fault
abbrev pub left_behind : {X : Type 0} → Result X Error → ℕ → ℕ
left_behind (Ok x) remaining = remaining - 1
left_behind (Err e) remaining = 0

-- of the items to come, the next one is read, or its fault; none where none are to come, and then nothing is read
module _ {X Y : Type 0} (takes : Bool) (reading : WasmFeatures → List ℕ → Reading Y) (seen : X → Y) where
  pub record NextItem (old new : Cursor) (before after : ℕ) (outcome : Result X Error) : Type 0 where
    pub some : 0 < before
    pub reads : ReadsBy takes (reading old.window.features) seen old new outcome
    pub left : after ≡ left_behind outcome before

  abbrev pub GivesNext : Cursor → Cursor → ℕ → ℕ → Option (Result X Error) → Type 0
  GivesNext old new before after (Some outcome) = NextItem old new before after outcome
  GivesNext old new before after None = (before ≡ 0) × (after ≡ 0) × (new ≡ old)

-- so many items are read and let go, up to a first fault
abbrev pub PassesRest : {Y : Type 0} → Bool → (WasmFeatures → List ℕ → Reading Y) → Cursor → Cursor → ℕ → Type 0
PassesRest takes reading old new count = (outcome : Result (Unit {0}) Error) × ReadsBy takes (passed_at (reading old.window.features) count) (plain {X = Unit {0}}) old new outcome
