-- Lemmas: readings that want of memory may cut short.
use Rattle.std.specs.Prelude.{ℕ, ◌-◌, ◌≡◌, Bool, true, false, List, Result, Ok, Err, refl}
use Rattle.std.proofs.Common.{subst, inl, inr}
use Rattle.wasm_reader.specs.declared.error.Error.{Error}
use Rattle.wasm_reader.specs.Cursor.{Window, Cursor, end_of}
use Rattle.wasm_features.specs.declared.WasmFeatures.{WasmFeatures}
use Rattle.wasm_reader.specs.Reading.{Reading, fault, ◌>>=◌, Reads}
use Rattle.wasm_reader.specs.Items.{FailsAs, ReadsUnlessMemory, ReadsBy}

-- a fault of the reading
pub fails_with : {Y : Type 0} (now : Cursor) (e : Error) (read : Reading Y) → read ≡ Err (fault e.kind (end_of now - e.offset)) → FailsAs now e read
fails_with now e read h = inl h

-- what fails, fails whatever follows
pub fails_then : {A B : Type 0} (now : Cursor) (e : Error) (first : Reading A) (next : A × List ℕ → Reading B) → FailsAs now e first → FailsAs now e (first >>= next)
fails_then now e first next (inl h) = inl (rw h refl)
fails_then now e first next (inr h) = inr h

-- what equals what fails
pub fails_as : {A : Type 0} (now : Cursor) (e : Error) (first second : Reading A) → first ≡ second → FailsAs now e first → FailsAs now e second
fails_as now e first second same h = rw (← same) h

module _ {X Y : Type 0} (reading : List ℕ → Reading Y) (view : X → Y) (old new : Cursor) where
  -- a call that takes no memory
  pub unless_memory : (result : Result X Error) → Reads reading view old new result → ReadsUnlessMemory reading view old new result
  unless_memory (Ok x) h = record { value = h.value; place = h.place; moves = h.moves }
  unless_memory (Err e) h = record { value = inl h.value; place = h.place; moves = h.moves }

  -- a call that takes memory or takes none
  pub by_either : (takes : Bool) (result : Result X Error) → ReadsBy takes reading view old new result → ReadsUnlessMemory reading view old new result
  by_either true result h = h
  by_either false result h = unless_memory result h

-- the window stays
module _ {X Y : Type 0} (takes : Bool) (reading : WasmFeatures → List ℕ → Reading Y) (seen : X → Y) (start old new : Cursor) (result : Result X Error) (same : old.window ≡ start.window) where
  pub by_window : ReadsBy takes (reading old.window.features) seen old new result → ReadsBy takes (reading start.window.features) seen old new result
  by_window h = subst (λ (w : Window). ReadsBy takes (reading w.features) seen old new result) same h

  pub in_window : ReadsBy takes (reading old.window.features) seen old new result → ReadsUnlessMemory (reading start.window.features) seen old new result
  in_window h = by_either (reading start.window.features) seen old new takes result (by_window h)
