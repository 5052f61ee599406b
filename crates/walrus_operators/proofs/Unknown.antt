-- Lemmas: a code that is no operator's.
use Rattle.std.proofs.Common.{◌≡◌, ◌≤◌, ℕ, zero, suc, List, [], ◌∷◌, Result, Ok, Err, length, drop, arith, refl, subst}
use Rattle.wasm_operators.specs.wasm_reader.Cursor.{Cursor}
use Rattle.wasm_operators.specs.wasm_reader.Reading.{Reads}
use Rattle.wasm_operators.specs.declared.entry.Kind.{Kind}
use Rattle.wasm_operators.specs.declared.op_code.OpCode.{OpCode}
use Rattle.wasm_operators.specs.Operators.{code_at, operator_at, IsKindOrPlace}
use Rattle.walrus_operators.specs.declared.reader.OperatorError.TheVariants as errors
use Rattle.walrus_operators.specs.Operators.{ReadsOperator}

-- where a code was read, bytes were left
read_within : (bytes : List ℕ) (p : ℕ) (x : OpCode × List ℕ) → code_at (drop p bytes) ≡ Ok x → p ≤ length bytes
unfolding code_at
read_within [] zero x h = omega arith
read_within [] (suc p) x h = absurd cc
read_within (b ∷ bytes) zero x h = omega arith
read_within (b ∷ bytes) (suc p) x h = let below = read_within bytes p x h in omega (arith, below)

-- it is said where it stands
pub unknown_here : (old new : Cursor) (code : OpCode) (kind : Result Kind ℕ) (offset : ℕ) → Reads code_at (λ (read : OpCode × Result Kind ℕ). read.0) old new (Ok (code, kind)) → IsKindOrPlace old code kind
    → kind ≡ Err offset → ReadsOperator old.window.features old new (Err (errors.Unknown offset))
unfolding operator_at
unknown_here old new code kind offset read known is =
    let here = subst (λ (k : Result Kind ℕ). IsKindOrPlace old code k) is known in
    let within = read_within old.window.bytes old.position _ read.value in
    record {
      value = (rw (read.value, here.0) refl, here.1);
      kind = tt;
      place = rw read.moves.window (omega (arith, here.1, within));
      moves = read.moves;
    }
