-- What is written for an operator, and read again.
use Rattle.std.specs.Prelude.{ℕ, ◌<◌, ◌≤◌, ◌≡◌, List, ◌++◌, length, All, Some, Result, Ok, Err}
use Rattle.wasm_ref_types.specs.wasm_features.declared.WasmFeatures.{WasmFeatures}
use Rattle.wasm_ref_types.specs.wasm_reader.Cursor.{Cursor, rest}
use Rattle.walrus_operators.specs.wasm_operators.Kinds.{forms}
use Rattle.walrus_operators.specs.wasm_operators.Operators.{kind_of}
use Rattle.walrus_operators.specs.wasm_operators.Spellings.{SpellsOperator}
use Rattle.wasm_operators.specs.Bytes.{operator_bytes}
use Rattle.wasm_operators.specs.Ranges.{ItemsFit}
use Rattle.walrus_operators.specs.declared.operator.Operator.{Operator}
use Rattle.walrus_operators.specs.declared.reader.OperatorError.{OperatorError}
use Rattle.walrus_operators.specs.Immediates.{items_of, kind_is}
use Rattle.walrus_operators.specs.Operators.{seen, ReadsOperator}
use Rattle.walrus_operators.specs.Laws.{SparesMemory}

-- the code is an operator's under the features, and the immediates are of its kind, in their ranges
pub record IsWritable (features : WasmFeatures) (op : Operator) : Type 0 where
  pub kind : kind_of features op.code ≡ Some (kind_is op.immediates)
  pub ranges : ItemsFit features (forms (kind_is op.immediates)) (items_of op.immediates)

-- what is written spells the operator, and no fewer bytes do
abbrev pub IsShortest : WasmFeatures → Type 0
IsShortest features = (op : Operator) → IsWritable features op
    → SpellsOperator features (operator_bytes (seen op)) (seen op)
    × ((bytes : List ℕ) → All (λ b. b < 256) bytes → SpellsOperator features bytes (seen op) → length (operator_bytes (seen op)) ≤ length bytes)

-- the same operator was read, and these bytes are left
abbrev pub GaveAgain : Operator → List ℕ → Cursor → Result Operator OperatorError → Type 0
GaveAgain op more new (Ok again) = (seen again ≡ seen op) × (kind_is again.immediates ≡ kind_is op.immediates) × (rest new ≡ more)
GaveAgain op more new (Err e) = ⊥

-- a reader that stands before what is written for an operator gives it, where memory is there
abbrev pub IsReadAgain : WasmFeatures → Type 0
IsReadAgain features = (op : Operator) (more : List ℕ) (old new : Cursor) (result : Result Operator OperatorError)
    → IsWritable features op → rest old ≡ operator_bytes (seen op) ++ more → SparesMemory new result → ReadsOperator features old new result → GaveAgain op more new result

-- an operator that was read meets what writing asks
abbrev pub ReadIsWritable : WasmFeatures → Type 0
ReadIsWritable features = (op : Operator) (old new : Cursor) → All (λ b. b < 256) (rest old) → ReadsOperator features old new (Ok op) → IsWritable features op
