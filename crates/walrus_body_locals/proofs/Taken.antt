-- Lemmas: an operator takes a byte at least.
use Rattle.std.proofs.Common.{ℕ, ◌≡◌, ◌<◌, ◌≤◌, Bool, true, false, List, [], ◌∷◌, length, Option, Some, None, Ok, Err, if◌then◌else◌, subst, arith}
use Rattle.wasm_features.specs.declared.WasmFeatures.{WasmFeatures}
use Rattle.wasm_reader.specs.Reading.{Reading, ◌>>=◌}
use Rattle.wasm_reader.specs.Numbers.{unsigned_at}
use Rattle.wasm_reader.specs.Laws.{StaysWithin}
use Rattle.wasm_reader.specs.Final.{map_final}
use Rattle.wasm_reader.specs.Finals.{unsigned_final}
use Rattle.walrus_pairing.specs.wasm_operators.Readings.{mapped, items_at}
use Rattle.walrus_pairing.specs.wasm_operators.ItemFinals.{items_final}
use Rattle.walrus_pairing.specs.wasm_operators.declared.entry.Kind.{Kind}
use Rattle.walrus_pairing.specs.wasm_operators.declared.op_code.OpCode.{OpCode}
use Rattle.walrus_pairing.specs.wasm_operators.Kinds.{forms}
use Rattle.walrus_pairing.specs.wasm_operators.Operators.{Seen, is_prefix, op_code, code_at, kind_of, seen_as, after_code, operator_at}

-- what is left behind what was read
abbrev Leaves : {A : Type 0} → ℕ → Reading A → Type 0
Leaves n (Ok x) = length x.1 ≤ n
Leaves n (Err e) = Unit {0}

within_leaves : {A : Type 0} (n : ℕ) (r : Reading A) → StaysWithin n r → Leaves n r
within_leaves n (Ok x) h = h
within_leaves n (Err e) h = tt

leaves_next : {A B : Type 0} (n : ℕ) (r : Reading A) (f : A × List ℕ → Reading B) → Leaves n r → ((x : A × List ℕ) → Leaves (length x.1) (f x)) → Leaves n (r >>= f)
leaves_next n (Ok x) f h k = go (f x) (k x)
  where
    go : {B : Type 0} (r : Reading B) → Leaves (length x.1) r → Leaves n r
    go (Ok y) l = omega (arith, l, h)
    go (Err e) l = tt
leaves_next n (Err e) f h k = tt

code_leaves : (b : ℕ) (bytes : List ℕ) → Leaves (length bytes) (code_at (b ∷ bytes))
unfolding code_at
code_leaves b bytes = go (is_prefix b)
  where
    go : (test : Bool) → Leaves (length bytes) (if test then mapped (op_code b) (unsigned_at 32 bytes) else Ok (op_code 0 b, bytes))
    go true = within_leaves (length bytes) (mapped (op_code b) (unsigned_at 32 bytes)) ((map_final (unsigned_at 32) (op_code b) (unsigned_final 32)).within bytes)
    go false = omega arith

after_leaves : (features : WasmFeatures) (code : OpCode) (kind : Option Kind) (bytes : List ℕ) → Leaves (length bytes) (after_code features code kind bytes)
after_leaves features code None bytes = omega arith
after_leaves features code (Some kind) bytes =
    within_leaves (length bytes) (mapped (seen_as code) (items_at features (forms kind) bytes)) ((map_final (items_at features (forms kind)) (seen_as code) (items_final features (forms kind))).within bytes)

operator_leaves : (features : WasmFeatures) (b : ℕ) (bytes : List ℕ) → Leaves (length bytes) (operator_at features (b ∷ bytes))
unfolding operator_at
operator_leaves features b bytes = leaves_next (length bytes) (code_at (b ∷ bytes)) (λ code. after_code features code.0 (kind_of features code.0) code.1) (code_leaves b bytes) (λ code. after_leaves features code.0 (kind_of features code.0) code.1)

pub operator_takes : (features : WasmFeatures) (bytes later : List ℕ) (x : Option Seen) → operator_at features bytes ≡ Ok (x, later) → length later < length bytes
unfolding operator_at code_at
operator_takes features [] later x e = absurd cc
operator_takes features (b ∷ bytes) later x e = let F : Reading (Option Seen) → Type 0 = λ r. Leaves (length bytes) r in let l : length later ≤ length bytes = subst F e (operator_leaves features b bytes) in omega (arith, l)
