-- Operators that are written are read again, and those that were read can be written.
use Rattle.std.proofs.Common.{◌≡◌, ℕ, inl, inr, List, Option, Some, None, Result, Ok, Err, sym, ap, ◌∙◌, subst}
use Rattle.wasm_ref_types.specs.wasm_features.declared.WasmFeatures.{WasmFeatures}
use Rattle.wasm_ref_types.specs.wasm_reader.Cursor.{Cursor, rest}
use Rattle.wasm_ref_types.specs.wasm_reader.Reading.{Reading}
use Rattle.walrus_operators.specs.wasm_operators.declared.entry.Kind.{Kind}
use Rattle.walrus_operators.specs.wasm_operators.declared.op_code.OpCode.{OpCode}
use Rattle.walrus_operators.specs.wasm_operators.Kinds.{forms}
use Rattle.walrus_operators.specs.wasm_operators.Operators.{kind_of, Seen, operator_at}
use Rattle.walrus_operators.specs.wasm_operators.Taken.{either_taken}
use Rattle.wasm_operators.specs.Vecs.{parts_small}
use Rattle.wasm_operators.specs.Ranges.{OperatorFits, ItemsFit}
use Rattle.wasm_operators.proofs.Operators.{operator_fits, operator_written}
use Rattle.walrus_operators.specs.declared.operator.Operator.{Operator}
use Rattle.walrus_operators.specs.declared.reader.OperatorError.{OperatorError}
use Rattle.walrus_operators.specs.declared.reader.OperatorError.TheVariants as errors
use Rattle.walrus_operators.specs.Immediates.{items_of, kind_is}
use Rattle.walrus_operators.specs.Operators.{seen, ReadsOperator}
use Rattle.walrus_operators.specs.Laws.{SparesMemory}
use Rattle.walrus_operators.specs.WrittenLaws.{IsWritable, GaveAgain, IsShortest, IsReadAgain, ReadIsWritable}

fits : (features : WasmFeatures) (op : Operator) → IsWritable features op → OperatorFits features (seen op)
fits features op h = record { kind = kind_is op.immediates; listed = h.kind; items = h.ranges }

pub shortest : (features : WasmFeatures) → IsShortest features
shortest features op h = ((operator_fits features).has (seen op) (fits features op h), (operator_written features (seen op) (fits features op h)).least)

some_kind : (a b : Kind) → (let known : Kind → Option Kind = λ k. Some k in known a ≡ known b) → a ≡ b
some_kind a b e = cc

some_seen : (a b : Seen) → (let known : Seen → Option Seen = λ s. Some s in known a ≡ known b) → a ≡ b
some_seen a b e = cc

ok_is : (x y : Option Seen × List ℕ) → (let done : Option Seen × List ℕ → Reading (Option Seen) = λ v. Ok v in done x ≡ done y) → x ≡ y
ok_is x y e = cc

module _ (features : WasmFeatures) (op : Operator) (more : List ℕ) (old new : Cursor) where
  gave : (result : Result Operator OperatorError) → IsWritable features op → operator_at features (rest old) ≡ Ok (Some (seen op), more) → SparesMemory new result → ReadsOperator features old new result
      → GaveAgain op more new result
  gave (Ok again) h e spares r =
      let same = ok_is (Some (seen again), rest new) (Some (seen op), more) (sym r.value ∙ e) in
      let alike = some_seen (seen again) (seen op) (ap (λ p. p.0) same) in
      let code : again.code ≡ op.code = ap (λ (s : Seen). s.code) alike in
      let kind = some_kind (kind_is again.immediates) (kind_is op.immediates) (sym r.kind ∙ ap (λ (c : OpCode). kind_of features c) code ∙ h.kind) in
      (alike, kind, ap (λ p. p.1) same)
  gave (Err (errors.Read e)) h is spares r = elim r.value [ inl fails ↦ (let both = sym fails ∙ is in absurd cc) | inr wants ↦ absurd (spares wants.1) ]
  gave (Err (errors.Unknown offset)) h is spares r =
      let found = r.value in
      let same = ok_is (None, rest new) (Some (seen op), more) (sym found.0 ∙ is) in
      let none : None ≡ Some (seen op) = ap (λ p. p.0) same in
      absurd cc

pub read_again : (features : WasmFeatures) → IsReadAgain features
read_again features op more old new result h e spares r =
    gave features op more old new result h (ap (operator_at features) e ∙ (operator_written features (seen op) (fits features op h)).again more) spares r

pub writable : (features : WasmFeatures) → ReadIsWritable features
writable features op old new small r =
    let found = (either_taken features).found (rest old) (rest new) (Some (seen op)) small r.value in
    let front = (parts_small (rest old) found.0 (rest new) found.2 small).0 in
    let it = (operator_fits features).only found.0 (seen op) front found.1 in
    let same = some_kind it.kind (kind_is op.immediates) (sym it.listed ∙ r.kind) in
    record { kind = r.kind; ranges = subst (λ (k : Kind). ItemsFit features (forms k) (items_of op.immediates)) same it.items }
