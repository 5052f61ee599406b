-- What it is to write the shortest spelling.
use Rattle.std.specs.Prelude.{ℕ, ◌<◌, ◌≤◌, ◌≡◌, List, ◌++◌, length, All, Some, Ok}
use Rattle.wasm_composite_types.specs.wasm_features.declared.WasmFeatures.{WasmFeatures}
use Rattle.wasm_operators.specs.Operators.{Seen, operator_at}
use Rattle.wasm_operators.specs.Spellings.{SpellsOperator}
use Rattle.wasm_operators.specs.Bytes.{operator_bytes}

-- of each value that has a spelling, what is written is one, and none is shorter
abbrev pub WritesShortest : {A : Type 0} → (List ℕ → A → Type 0) → (A → List ℕ) → Type 0
WritesShortest {A} spells written = (bytes : List ℕ) (x : A) → All (λ b. b < 256) bytes → spells bytes x → spells (written x) x × (length (written x) ≤ length bytes)

-- what is written is read as what it was written for, whatever follows
abbrev pub ReadsBack : WasmFeatures → Type 0
ReadsBack features = (bytes more : List ℕ) (op : Seen) → All (λ b. b < 256) bytes → SpellsOperator features bytes op → operator_at features (operator_bytes op ++ more) ≡ Ok (Some op, more)
