-- Lemmas: which immediates the operators of constant expressions have, and that their codes take bytes.
use Rattle.std.specs.Prelude.{ℕ, zero, suc, ◌+◌, ◌<◌, ◌≤◌, ◌≡◌, ◌==◌, ◌&&◌, ◌||◌, nat_le, Bool, true, false, List, [], ◌∷◌, length, Option, Some, None, Ok, Err, refl}
use Rattle.std.proofs.Common.{ap, sym, ◌∙◌, subst, arith, inl, inr}
use Rattle.std.proofs.lemmas.Bool.{cases_lt, eqb-true, leb-true}
use Rattle.wasm_features.specs.declared.WasmFeatures.{WasmFeatures}
use Rattle.wasm_operators.specs.declared.entry.Kind.{Kind}
use Rattle.wasm_operators.specs.declared.entry.Kind.TheVariants as kinds
use Rattle.wasm_operators.specs.declared.op_code.OpCode.{OpCode}
use Rattle.wasm_operators.specs.Table.{structure_rows, call_rows, plain_rows, fb_rows, fd_rows}
use Rattle.wasm_operators.specs.Operators.{kind_of, op_code}
use Rattle.wasm_grammar.specs.Exprs.{is_constant, constant_byte, constant_fb}

-- the kinds of operators of constant expressions
abbrev pub IsConstantKind : Kind → Type 0
IsConstantKind kinds.Bare = Unit {0}
IsConstantKind kinds.I32 = Unit {0}
IsConstantKind kinds.I64 = Unit {0}
IsConstantKind kinds.F32 = Unit {0}
IsConstantKind kinds.F64 = Unit {0}
IsConstantKind kinds.Vector = Unit {0}
IsConstantKind kinds.Global = Unit {0}
IsConstantKind kinds.Function = Unit {0}
IsConstantKind kinds.Heap = Unit {0}
IsConstantKind kinds.Type = Unit {0}
IsConstantKind kinds.TypeNumber = Unit {0}
IsConstantKind kind = ⊥

abbrev pub HasConstantKind : Option Kind → Type 0
HasConstantKind None = ⊥
HasConstantKind (Some kind) = IsConstantKind kind

abbrev Has : WasmFeatures → ℕ → ℕ → Type 0
Has features prefix n = HasConstantKind (kind_of features (op_code prefix n))

-- a test of two that holds
either_holds : {P : Type 0} (a b : Bool) → (a || b) ≡ true → (a ≡ true → P) → (b ≡ true → P) → P
either_holds true b e p q = p refl
either_holds false b e p q = q e

both_hold : {P : Type 0} (a b : Bool) → (a && b) ≡ true → (a ≡ true → b ≡ true → P) → P
both_hold true true e p = p refl refl
both_hold true false e p = absurd cc
both_hold false b e p = absurd cc

-- numbers in a range
two : (P : ℕ → Type 0) (n : ℕ) → n ≤ 1 → P 0 → P 1 → P n
two P n hi a b = elim (cases_lt n 1) [
  | inl lt ↦ let is : 0 ≡ n = omega (arith, lt) in subst P is a
  | inr ge ↦ let is : 1 ≡ n = omega (arith, ge, hi) in subst P is b
]

three : (P : ℕ → Type 0) (first n : ℕ) → first ≤ n → n ≤ first + 2 → P first → P (first + 1) → P (first + 2) → P n
three P first n lo hi a b c = elim (cases_lt n (first + 1)) [
  | inl lt ↦ let is : first ≡ n = omega (arith, lt, lo) in subst P is a
  | inr ge ↦ elim (cases_lt n (first + 2)) [
    | inl lt ↦ let is : first + 1 ≡ n = omega (arith, lt, ge) in subst P is b
    | inr ge ↦ let is : first + 2 ≡ n = omega (arith, ge, hi) in subst P is c
  ]
]

in_three : (P : ℕ → Type 0) (first n : ℕ) → (nat_le first n && nat_le n (first + 2)) ≡ true → P first → P (first + 1) → P (first + 2) → P n
in_three P first n e a b c = both_hold (nat_le first n) (nat_le n (first + 2)) e (λ lo hi. three P first n (leb-true first n lo) (leb-true n (first + 2) hi) a b c)

in_four : (P : ℕ → Type 0) (first n : ℕ) → (nat_le first n && nat_le n (first + 3)) ≡ true → P first → P (first + 1) → P (first + 2) → P (first + 3) → P n
in_four P first n e a b c d = both_hold (nat_le first n) (nat_le n (first + 3)) e (λ lo hi. elim (cases_lt n (first + 1)) [
  | inl lt ↦ let is : first ≡ n = omega (arith, lt, leb-true first n lo) in subst P is a
  | inr ge ↦ let above : first + 1 ≤ n = ge in three_behind n ge (leb-true n (first + 3) hi)
])
  where
    three_behind : (n : ℕ) → first + 1 ≤ n → n ≤ first + 3 → P n
    three_behind n lo hi = elim (cases_lt n (first + 2)) [
      | inl lt ↦ let is : first + 1 ≡ n = omega (arith, lt, lo) in subst P is b
      | inr ge ↦ elim (cases_lt n (first + 3)) [
        | inl lt ↦ let is : first + 2 ≡ n = omega (arith, lt, ge) in subst P is c
        | inr ge ↦ let is : first + 3 ≡ n = omega (arith, ge, hi) in subst P is d
      ]
    ]

is_number : (P : ℕ → Type 0) (n m : ℕ) → (n == m) ≡ true → P m → P n
is_number P n m e p = subst P (sym (eqb-true n m e)) p

byte_kind : (features : WasmFeatures) (n : ℕ) → constant_byte n ≡ true → Has features 0 n
unfolding kind_of plain_rows call_rows structure_rows
byte_kind features n e =
    let P : ℕ → Type 0 = λ n. Has features 0 n in
    either_holds _ _ e
    (λ e. either_holds _ _ e
    (λ e. either_holds _ _ e
    (λ e. either_holds _ _ e
    (λ e. either_holds _ _ e
    (λ e. in_four P 0x41 n e tt tt tt tt)
    (λ e. is_number P n 0x23 e tt))
    (λ e. is_number P n 0xd0 e tt))
    (λ e. is_number P n 0xd2 e tt))
    (λ e. in_three P 0x6a n e tt tt tt))
    (λ e. in_three P 0x7c n e tt tt tt)

fb_kind : (features : WasmFeatures) (n : ℕ) → constant_fb n ≡ true → Has features 0xfb n
unfolding kind_of fb_rows
fb_kind features n e =
    let P : ℕ → Type 0 = λ n. Has features 0xfb n in
    either_holds _ _ e
    (λ e. either_holds _ _ e
    (λ e. two P n (leb-true n 1 e) tt tt)
    (λ e. in_three P 6 n e tt tt tt))
    (λ e. in_three P 26 n e tt tt tt)

with_prefix : (features : WasmFeatures) (code : OpCode) (prefix : ℕ) → (code.prefix == prefix) ≡ true → Has features prefix code.number → HasConstantKind (kind_of features code)
with_prefix features code prefix e h = subst (λ (p : ℕ). Has features p code.number) (sym (eqb-true code.prefix prefix e)) h

fd_kind : (features : WasmFeatures) (n : ℕ) → (n == 12) ≡ true → Has features 0xfd n
unfolding kind_of fd_rows
fd_kind features n e = is_number (λ n. Has features 0xfd n) n 12 e tt

-- an operator of a constant expression is one under all features, of one of these kinds
pub constant_kind : (features : WasmFeatures) (code : OpCode) → is_constant code ≡ true → HasConstantKind (kind_of features code)
constant_kind features code e =
    either_holds _ _ e
    (λ e. either_holds _ _ e
    (λ e. both_hold _ _ e (λ p n. with_prefix features code 0 p (byte_kind features code.number n)))
    (λ e. both_hold _ _ e (λ p n. with_prefix features code 0xfb p (fb_kind features code.number n))))
    (λ e. both_hold _ _ e (λ p n. with_prefix features code 0xfd p (fd_kind features code.number n)))

pub lacks_none : (features : WasmFeatures) (code : OpCode) → is_constant code ≡ true → kind_of features code ≡ None → ⊥
lacks_none features code e none = subst HasConstantKind none (constant_kind features code e)

pub has_constant : (features : WasmFeatures) (code : OpCode) (kind : Kind) → is_constant code ≡ true → kind_of features code ≡ Some kind → IsConstantKind kind
has_constant features code kind e is = subst HasConstantKind is (constant_kind features code e)
