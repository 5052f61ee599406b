-- What the offset of the bytes changes of a call of the reader of operators.
use Rattle.std.specs.Prelude.{ℕ, ◌+◌, ◌≡◌, Result, Ok, Err}
use Rattle.wasm_operators.specs.wasm_reader.wasm_features.declared.WasmFeatures.{WasmFeatures}
use Rattle.wasm_operators.specs.wasm_reader.Cursor.{Cursor, IsWithin}
use Rattle.wasm_operators.specs.wasm_reader.Items.{WantsMemory}
use Rattle.wasm_operators.specs.wasm_reader.Laws.{IsMoved}
use Rattle.walrus_operators.specs.declared.operator.Operator.{Operator}
use Rattle.walrus_operators.specs.declared.reader.OperatorError.{OperatorError}
use Rattle.walrus_operators.specs.declared.reader.OperatorError.TheVariants as errors
use Rattle.walrus_operators.specs.Operators.{seen, ReadsOperator}

-- the same answer at offsets greater by k
abbrev pub MovedOperator : ℕ → Cursor → Cursor → Result Operator OperatorError → Result Operator OperatorError → Type 0
MovedOperator k here there (Ok op) (Ok op') = (seen op' ≡ seen op) × IsMoved k here there
MovedOperator k here there (Ok op) (Err f) = ⊥
MovedOperator k here there (Err e) (Ok op') = ⊥
MovedOperator k here there (Err (errors.Read e)) (Err (errors.Read f)) = (f.kind ≡ e.kind) × (f.offset ≡ e.offset + k)
MovedOperator k here there (Err (errors.Unknown offset)) (Err (errors.Unknown offset')) = (offset' ≡ offset + k) × IsMoved k here there
MovedOperator k here there (Err (errors.Read e)) (Err (errors.Unknown offset')) = ⊥
MovedOperator k here there (Err (errors.Unknown offset)) (Err (errors.Read f)) = ⊥

-- the call was not refused memory
abbrev pub SparesMemory : Cursor → Result Operator OperatorError → Type 0
SparesMemory new (Ok op) = Unit {0}
SparesMemory new (Err (errors.Read e)) = WantsMemory new e → ⊥
SparesMemory new (Err (errors.Unknown offset)) = Unit {0}

-- where memory is there, a call at offset k answers what it answers at offset 0, moved by k
abbrev pub OperatorsMove : WasmFeatures → Type 0
OperatorsMove features = (k : ℕ) (old new old' new' : Cursor) (result result' : Result Operator OperatorError)
    → IsMoved k old old' → IsWithin old → SparesMemory new result → SparesMemory new' result' → ReadsOperator features old new result → ReadsOperator features old' new' result'
    → MovedOperator k new new' result result'
