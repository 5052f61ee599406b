-- What has a spelling.
use Rattle.std.specs.Prelude.{ℕ, ◌<◌, ◌≤◌, ◌≡◌, List, ◌++◌, length, All, Some, Ok}
use Rattle.wasm_composite_types.specs.wasm_features.declared.WasmFeatures.{WasmFeatures}
use Rattle.wasm_operators.specs.Operators.{Seen, operator_at}
use Rattle.wasm_operators.specs.Spellings.{SpellsOperator}
use Rattle.wasm_operators.specs.Bytes.{operator_bytes}

-- what is written for a value spells it exactly if it fits: no other bytes spell one that doesn't
pub record SpelledIfFits {A : Type 0} (spells : List ℕ → A → Type 0) (written : A → List ℕ) (Fits : A → Type 0) : Type 0 where
  pub has : (x : A) → Fits x → spells (written x) x
  pub only : (bytes : List ℕ) (x : A) → All (λ b. b < 256) bytes → spells bytes x → Fits x

-- what is written for an operator is read back, whatever follows, and no spelling of it is shorter
pub record WritesIt (features : WasmFeatures) (op : Seen) : Type 0 where
  pub again : (more : List ℕ) → operator_at features (operator_bytes op ++ more) ≡ Ok (Some op, more)
  pub least : (bytes : List ℕ) → All (λ b. b < 256) bytes → SpellsOperator features bytes op → length (operator_bytes op) ≤ length bytes
