-- What a call of the reader of operators answers.
use Rattle.std.specs.Prelude.{ℕ, ◌+◌, ◌-◌, ◌<◌, ◌≤◌, ◌≡◌, ◌⊎◌, true, List, ◌∷◌, Option, Some, None, Result, Ok, Err, IfOk, IfErr}
use Rattle.wasm_operators.specs.wasm_reader.wasm_features.declared.WasmFeatures.{WasmFeatures}
use Rattle.wasm_operators.specs.wasm_reader.declared.error.Error.{Error}
use Rattle.wasm_operators.specs.wasm_reader.Cursor.{Cursor, rest, end_of, Forward}
use Rattle.wasm_operators.specs.wasm_reader.Reading.{Reading, fault}
use Rattle.wasm_operators.specs.wasm_reader.Items.{WantsMemory}
use Rattle.wasm_operators.specs.declared.entry.Entry.{Entry}
use Rattle.wasm_operators.specs.declared.entry.Kind.{Kind}
use Rattle.wasm_operators.specs.declared.op_code.OpCode.{OpCode}
use Rattle.wasm_operators.specs.Kinds.{takes_memory}
use Rattle.wasm_operators.specs.Table.{find_code}
use Rattle.wasm_operators.specs.Operators.{is_on, kind_of, code_at, Seen, operator_at}
use Rattle.walrus_operators.specs.declared.operator.Operator.{Operator}
use Rattle.walrus_operators.specs.declared.reader.OperatorError.{OperatorError}
use Rattle.walrus_operators.specs.declared.reader.OperatorError.TheVariants as errors
use Rattle.walrus_operators.specs.Immediates.{items_of, kind_is}

-- an operator's code and items
abbrev pub seen : Operator → Seen
seen op = record { code = op.code; items = items_of op.immediates }

abbrev pub offset_of : OperatorError → ℕ
offset_of (errors.Read e) = e.offset
offset_of (errors.Unknown offset) = offset

-- the operator that stands here has a list among its immediates
abbrev pub HoldsList : WasmFeatures → List ℕ → Type 0
HoldsList features bytes = (code : OpCode) × (later : List ℕ) × (kind : Kind) × (code_at bytes ≡ Ok (code, later)) × (kind_of features code ≡ Some kind) × (takes_memory kind ≡ true)

-- memory was refused, where the reader stands, to an operator that holds a list
abbrev pub WantsMemoryOfList : WasmFeatures → Cursor → Cursor → Error → Type 0
WantsMemoryOfList features old new e = HoldsList features (rest old) × WantsMemory new e

-- a call's result is the reading's answer: the operator, or the fault, or that its code is no operator's, at the operator's first
-- byte; or memory is wanted for a list
abbrev pub Answers : WasmFeatures → Cursor → Cursor → Result Operator OperatorError → Reading (Option Seen) → Type 0
Answers features old new (Ok op) read = read ≡ Ok (Some (seen op), rest new)
Answers features old new (Err (errors.Read e)) read = (read ≡ Err (fault e.kind (end_of new - e.offset))) ⊎ WantsMemoryOfList features old new e
Answers features old new (Err (errors.Unknown offset)) read = (read ≡ Ok (None, rest new)) × (offset ≡ old.window.start + old.position)

-- the call read what the reading says, and immediates of the code's kind
pub record ReadsOperator (features : WasmFeatures) (old new : Cursor) (result : Result Operator OperatorError) : Type 0 where
  pub value : Answers features old new result (operator_at features (rest old))
  pub kind : IfOk result (λ op. kind_of features op.code ≡ Some (kind_is op.immediates))
  pub place : IfErr result (λ e. offset_of e ≤ end_of new)
  pub moves : Forward old new

-- a byte stands here that is the code of an operator under the features, of which the table says this
pub record IsNext (c : Cursor) (e : Entry) : Type 0 where
  pub byte : ℕ
  pub later : List ℕ
  pub stands : rest c ≡ byte ∷ later
  pub low : byte < 0xfb
  pub listed : find_code 0 byte ≡ Some e
  pub on : is_on c.window.features e.gate ≡ true

-- and these immediates follow it
abbrev pub IsNextOf : Cursor → Kind → Type 0
IsNextOf c kind = (e : Entry) × IsNext c e × (e.kind ≡ kind)
