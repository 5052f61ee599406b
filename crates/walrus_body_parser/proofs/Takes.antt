-- Lemmas: an operator that is read.
use Rattle.std.proofs.Common.{ℕ, ◌≡◌, ◌⊎◌, ◌<◌, ◌≤◌, ◌+◌, ◌-◌, Bool, true, false, List, [], ◌∷◌, length, Option, Some, None, Result, Ok, Err, if◌then◌else◌, refl, sym, ap, subst, inl, inr, ◌∙◌, arith}
use Rattle.std.proofs.lemmas.List.{length-drop}
use Rattle.wasm_features.specs.declared.WasmFeatures.{WasmFeatures}
use Rattle.wasm_reader.specs.declared.error.Error.{Error}
use Rattle.wasm_reader.specs.declared.error.ErrorKind.{ErrorKind}
use Rattle.wasm_reader.specs.Cursor.{Cursor, rest, end_of, IsWithin}
use Rattle.wasm_reader.specs.Reading.{Reading, Fault, fault, ◌>>=◌}
use Rattle.wasm_reader.specs.Numbers.{unsigned_at}
use Rattle.wasm_reader.specs.Laws.{StaysWithin}
use Rattle.wasm_reader.specs.Final.{map_final}
use Rattle.wasm_reader.specs.Finals.{unsigned_final}
use Rattle.walrus_body_operands.specs.walrus_body_rules.wasm_body_grammar.wasm_operators.Readings.{mapped, items_at}
use Rattle.walrus_body_operands.specs.walrus_body_rules.wasm_body_grammar.wasm_operators.ItemFinals.{items_final}
use Rattle.walrus_body_operands.specs.walrus_body_rules.wasm_body_grammar.wasm_operators.declared.entry.Kind.{Kind}
use Rattle.walrus_body_operands.specs.walrus_body_rules.wasm_body_grammar.wasm_operators.declared.op_code.OpCode.{OpCode}
use Rattle.walrus_body_operands.specs.walrus_body_rules.wasm_body_grammar.wasm_operators.Kinds.{forms}
use Rattle.walrus_body_operands.specs.walrus_body_rules.wasm_body_grammar.wasm_operators.Operators.{Seen, is_prefix, op_code, code_at, kind_of, seen_as, after_code, operator_at}
use Rattle.wasm_formats.specs.Stops.{Read, Operator, Stop, stop, Parsing, value_at}
use Rattle.wasm_formats.specs.Parts.{told_as}
use Rattle.walrus_body_locals.specs.wasm_body_grammar.Bodies.{operator}
use Rattle.walrus_operators.specs.declared.operator.Operator.{Operator as Op}
use Rattle.walrus_operators.specs.declared.reader.OperatorError.TheVariants as errors
use Rattle.walrus_operators.specs.Operators.{seen, ReadsOperator, Answers}
use Rattle.walrus_body_locals.specs.walrus_body_env.declared.error.BodyError.{BodyError}
use Rattle.walrus_body_locals.specs.walrus_body_env.declared.error.BodyError.TheVariants as faults
use Rattle.walrus_body_locals.specs.walrus_body_env.Faults.{fault_of_kind, read_fault}
use Rattle.walrus_body_locals.specs.Calls.{Parses, Refuses, IsFaultOf}
use Rattle.walrus_body_locals.proofs.Answering.{end_stays, reader_refuses}

-- ---- what a call answers

-- an offset inside the window
pub offset_is : (c : Cursor) → IsWithin c → c.window.start + c.position ≡ end_of c - length (rest c)
offset_is c h = omega (arith, h, length-drop c.position c.window.bytes)

-- what parsing makes of what was read, where so many bytes were left
abbrev refused_as : Reading (Option Seen) → ℕ → Parsing Seen
refused_as r left = behind (value_at r) (λ x. told_as (λ op. op) Operator left x x.0)
  where
    behind : {A B : Type 0} → Result A Stop → (A → Result B Stop) → Result B Stop
    behind (Ok x) f = f x
    behind (Err e) f = Err e

-- the parser of operators stands on the reader's
abbrev Reads : Cursor → Cursor → Result Op BodyError → Type 0
Reads old new = Parses (operator old.window.features).parse (λ (op : Op) x. seen op ≡ x) old new

pub operator_refused : (old new : Cursor) (e : Error) → ReadsOperator old.window.features old new (Err (errors.Read e)) → Reads old new (Err (read_fault e))
operator_refused old new e h = record { value = go h.value; moves = h.moves }
  where
    at : (r : Reading (Option Seen)) → operator_at old.window.features (rest old) ≡ r → Refuses (end_of new) (refused_as r (length (rest old))) (read_fault e) → Refuses (end_of new) ((operator old.window.features).parse (rest old)) (read_fault e)
    at r q k = rw q k

    stops : (f : Fault) → f ≡ fault e.kind (end_of new - e.offset) → Refuses (end_of new) (refused_as (Err f) (length (rest old))) (read_fault e)
    stops f q = rw q (go2 (reader_refuses (end_of new) e h.place))
      where
        go2 : (read_fault e ≡ faults.Memory) ⊎ IsFaultOf (end_of new) (stop (Read e.kind) (end_of new - e.offset)) (read_fault e) → Refuses (end_of new) (refused_as (Err (fault e.kind (end_of new - e.offset))) (length (rest old))) (read_fault e)
        go2 (inl m) = inl m
        go2 (inr f) = inr (stop (Read e.kind) (end_of new - e.offset), refl, f)

    go : Answers old.window.features old new (Err (errors.Read e)) (operator_at old.window.features (rest old)) → Refuses (end_of new) ((operator old.window.features).parse (rest old)) (read_fault e)
    go (inl r) = at (Err (fault e.kind (end_of new - e.offset))) r (stops (fault e.kind (end_of new - e.offset)) refl)
    go (inr m) = inl (ap (λ (k : ErrorKind). fault_of_kind k e) m.1.kind)

pub operator_unknown : (old new : Cursor) (offset : ℕ) → IsWithin old → ReadsOperator old.window.features old new (Err (errors.Unknown offset)) → Reads old new (Err (faults.Operator (Some offset)))
operator_unknown old new offset within h =
    let left = length (rest old) in
    let there : end_of new - left ≡ offset = ap (λ (n : ℕ). n - left) (end_stays old new h.moves) ∙ sym (offset_is old within) ∙ sym h.value.1 in
    record { value = inr (stop Operator left, rw h.value.0 refl, ap (λ (k : ℕ). Some (faults.Operator (Some k))) there); moves = h.moves }

pub operator_read : (old new : Cursor) (op : Op) → ReadsOperator old.window.features old new (Ok op) → Reads old new (Ok op)
operator_read old new op h = record { value = (seen op, rw h.value refl, refl); moves = h.moves }
