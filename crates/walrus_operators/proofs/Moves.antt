-- The same bytes at another offset give the same operator, moved.
use Rattle.std.proofs.Common.{◌≡◌, ℕ, inl, inr, Option, Some, None, Result, Ok, Err, arith}
use Rattle.wasm_operators.specs.wasm_reader.wasm_features.declared.WasmFeatures.{WasmFeatures}
use Rattle.wasm_operators.specs.wasm_reader.declared.error.Error.{Error}
use Rattle.wasm_operators.specs.wasm_reader.Cursor.{Cursor}
use Rattle.wasm_operators.specs.wasm_reader.Reading.{Reads, plain}
use Rattle.wasm_operators.specs.wasm_reader.Laws.{IsMoved, MovedAnswer}
use Rattle.wasm_operators.proofs.wasm_reader.Moved.{offsets_move_lem}
use Rattle.wasm_operators.specs.Operators.{Seen, operator_at}
use Rattle.walrus_operators.specs.declared.operator.Operator.{Operator}
use Rattle.walrus_operators.specs.declared.reader.OperatorError.{OperatorError}
use Rattle.walrus_operators.specs.declared.reader.OperatorError.TheVariants as errors
use Rattle.walrus_operators.specs.Operators.{seen, ReadsOperator}
use Rattle.walrus_operators.specs.Laws.{MovedOperator, SparesMemory, OperatorsMove}

-- an unknown code as a value that is read
abbrev as_read : Result Operator OperatorError → Result (Option Seen) Error
as_read (Ok op) = Ok (Some (seen op))
as_read (Err (errors.Read e)) = Err e
as_read (Err (errors.Unknown offset)) = Ok None

reads_so : (features : WasmFeatures) (old new : Cursor) (result : Result Operator OperatorError) → SparesMemory new result → ReadsOperator features old new result
    → Reads (operator_at features) plain old new (as_read result)
reads_so features old new (Ok op) spares h = record { value = h.value; place = tt; moves = h.moves }
reads_so features old new (Err (errors.Read e)) spares h =
    record { value = elim h.value [ inl fails ↦ fails | inr wants ↦ absurd (spares wants.1) ]; place = h.place; moves = h.moves }
reads_so features old new (Err (errors.Unknown offset)) spares h = let found = h.value in record { value = found.0; place = tt; moves = h.moves }

some_is : (a b : Seen) → (let found : Seen → Option Seen = λ s. Some s in found a ≡ found b) → a ≡ b
some_is a b e = cc

answers : (features : WasmFeatures) (k : ℕ) (old new old' new' : Cursor) (result result' : Result Operator OperatorError) → IsMoved k old old'
    → ReadsOperator features old new result → ReadsOperator features old' new' result' → MovedAnswer plain k new new' (as_read result) (as_read result')
    → MovedOperator k new new' result result'
answers features k old new old' new' (Ok op) (Ok op') moved p q m = (some_is (seen op') (seen op) m.0, m.1)
answers features k old new old' new' (Ok op) (Err (errors.Read f)) moved p q m = m
answers features k old new old' new' (Ok op) (Err (errors.Unknown offset')) moved p q m = let e = m.0 in cc
answers features k old new old' new' (Err (errors.Read e)) (Ok op') moved p q m = m
answers features k old new old' new' (Err (errors.Read e)) (Err (errors.Read f)) moved p q m = m
answers features k old new old' new' (Err (errors.Read e)) (Err (errors.Unknown offset')) moved p q m = m
answers features k old new old' new' (Err (errors.Unknown offset)) (Ok op') moved p q m = let e = m.0 in cc
answers features k old new old' new' (Err (errors.Unknown offset)) (Err (errors.Read f)) moved p q m = m
answers features k old new old' new' (Err (errors.Unknown offset)) (Err (errors.Unknown offset')) moved p q m =
    let here = p.value in
    let there = q.value in
    let start = moved.start in
    let position = moved.position in
    (omega (arith, here.1, there.1, start, position), m.1)

pub operators_move : (features : WasmFeatures) → OperatorsMove features
operators_move features k old new old' new' result result' moved within spares spares' p q =
    answers features k old new old' new' result result' moved p q
    (offsets_move_lem plain (operator_at features) k old new old' new' (as_read result) (as_read result') moved within (reads_so features old new result spares p) (reads_so features old' new' result' spares' q))
