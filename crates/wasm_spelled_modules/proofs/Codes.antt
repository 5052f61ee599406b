-- Lemmas: the codes of constant expressions are those that are listed, and are operators whatever the features.
use Rattle.std.specs.Prelude.{ℕ, zero, suc, ◌+◌, ◌<◌, ◌≤◌, ◌≡◌, ◌==◌, ◌&&◌, ◌||◌, nat_le, true, Some, refl}
use Rattle.std.proofs.Common.{sym, subst, arith, inl, inr}
use Rattle.std.proofs.lemmas.Bool.{and_parts, or_cases, cases_lt, leb-true, eqb-true}
use Rattle.wasm_formats.specs.wasm_features.declared.WasmFeatures.{WasmFeatures}
use Rattle.wasm_grammar.specs.Exprs.{constant_byte, constant_fb, is_constant}
use Rattle.wasm_grammar.specs.wasm_operators.declared.entry.Kind.{Kind}
use Rattle.wasm_grammar.specs.wasm_operators.declared.entry.Kind.TheVariants as kinds
use Rattle.wasm_grammar.specs.wasm_operators.declared.op_code.OpCode.{OpCode}
use Rattle.wasm_grammar.specs.wasm_operators.Operators.{kind_of, op_code}
use Rattle.wasm_grammar.specs.wasm_operators.Table.{plain_rows, call_rows, fb_rows, fd_rows}
use Rattle.wasm_spelled_modules.specs.Constants.{OfConstants}
use Rattle.wasm_spelled_modules.specs.Spelled.{ConstantsAreListed}

-- numbers in turn
abbrev Run : (ℕ → Type 0) → ℕ → ℕ → Type 0
Run Q a zero = Unit {0}
Run Q a (suc k) = Q a × Run Q (suc a) k

in_run : (Q : ℕ → Type 0) (k a n : ℕ) → Run Q a k → a ≤ n → n < a + k → Q n
in_run Q zero a n r le lt = absurd (omega (arith, le, lt))
in_run Q (suc k) a n r le lt = elim (cases_lt n (suc a)) [
  | inl first ↦ let e : a ≡ n = omega (arith, le, first) in subst Q e r.0
  | inr later ↦ in_run Q k (suc a) n r.1 later (omega (arith, lt))
]

between : (Q : ℕ → Type 0) (k a last n : ℕ) → last + 1 ≡ a + k → Run Q a k → (nat_le a n && nat_le n last) ≡ true → Q n
between Q k a last n e r is =
    let p = and_parts (nat_le a n) (nat_le n last) is in
    let low = leb-true a n p.0 in
    let high = leb-true n last p.1 in
    in_run Q k a n r low (omega (arith, e, high))

one_is : (Q : ℕ → Type 0) (a n : ℕ) → Q a → (n == a) ≡ true → Q n
one_is Q a n q is = subst Q (sym (eqb-true n a is)) q

module _ (P : OpCode → Type 0) (c : OfConstants P) where
  abbrev Byte : ℕ → Type 0
  Byte n = P (op_code 0 n)

  abbrev Object : ℕ → Type 0
  Object n = P (op_code 0xfb n)

  byte_is : (n : ℕ) → constant_byte n ≡ true → Byte n
  byte_is n e = elim (or_cases ((nat_le 0x41 n && nat_le n 0x44) || n == 0x23 || n == 0xd0 || n == 0xd2 || (nat_le 0x6a n && nat_le n 0x6c)) (nat_le 0x7c n && nat_le n 0x7e) e) [
    | inr is ↦ between Byte 3 0x7c 0x7e n refl (c.i64_add, (c.i64_sub, (c.i64_mul, tt))) is
    | inl e ↦ elim (or_cases ((nat_le 0x41 n && nat_le n 0x44) || n == 0x23 || n == 0xd0 || n == 0xd2) (nat_le 0x6a n && nat_le n 0x6c) e) [
      | inr is ↦ between Byte 3 0x6a 0x6c n refl (c.i32_add, (c.i32_sub, (c.i32_mul, tt))) is
      | inl e ↦ elim (or_cases ((nat_le 0x41 n && nat_le n 0x44) || n == 0x23 || n == 0xd0) (n == 0xd2) e) [
        | inr is ↦ one_is Byte 0xd2 n c.ref_func is
        | inl e ↦ elim (or_cases ((nat_le 0x41 n && nat_le n 0x44) || n == 0x23) (n == 0xd0) e) [
          | inr is ↦ one_is Byte 0xd0 n c.ref_null is
          | inl e ↦ elim (or_cases (nat_le 0x41 n && nat_le n 0x44) (n == 0x23) e) [
            | inr is ↦ one_is Byte 0x23 n c.global_get is
            | inl is ↦ between Byte 4 0x41 0x44 n refl (c.i32_const, (c.i64_const, (c.f32_const, (c.f64_const, tt)))) is
          ]
        ]
      ]
    ]
  ]

  object_is : (n : ℕ) → constant_fb n ≡ true → Object n
  object_is n e = elim (or_cases (nat_le n 1 || (nat_le 6 n && nat_le n 8)) (nat_le 26 n && nat_le n 28) e) [
    | inr is ↦ between Object 3 26 28 n refl (c.any_convert_extern, (c.extern_convert_any, (c.ref_i31, tt))) is
    | inl e ↦ elim (or_cases (nat_le n 1) (nat_le 6 n && nat_le n 8) e) [
      | inr is ↦ between Object 3 6 8 n refl (c.array_new, (c.array_new_default, (c.array_new_fixed, tt))) is
      | inl is ↦ let high = leb-true n 1 is in in_run Object 2 0 n (c.struct_new, (c.struct_new_default, tt)) (omega arith) (omega (arith, high))
    ]
  ]

  -- behind this prefix
  behind : (prefix : ℕ) (code : OpCode) → (code.prefix == prefix) ≡ true → P (op_code prefix code.number) → P code
  behind prefix code is p = subst (λ (n : ℕ). P (op_code n code.number)) (sym (eqb-true code.prefix prefix is)) p

  listed : (code : OpCode) → is_constant code ≡ true → P code
  listed code e = elim (or_cases ((code.prefix == 0 && constant_byte code.number) || (code.prefix == 0xfb && constant_fb code.number)) (code.prefix == 0xfd && code.number == 12) e) [
    | inr is ↦
        let p = and_parts (code.prefix == 0xfd) (code.number == 12) is in
        behind 0xfd code p.0 (one_is (λ n. P (op_code 0xfd n)) 12 code.number c.v128_const p.1)
    | inl e ↦ elim (or_cases (code.prefix == 0 && constant_byte code.number) (code.prefix == 0xfb && constant_fb code.number) e) [
      | inr is ↦ let p = and_parts (code.prefix == 0xfb) (constant_fb code.number) is in behind 0xfb code p.0 (object_is code.number p.1)
      | inl is ↦ let p = and_parts (code.prefix == 0) (constant_byte code.number) is in behind 0 code p.0 (byte_is code.number p.1)
    ]
  ]

pub constants_are_listed : ConstantsAreListed
constants_are_listed P c code e = listed P c code e

-- ---- their kinds

abbrev IsListed : OpCode → Type 0
IsListed code = (features : WasmFeatures) → (kind : Kind) × (kind_of features code ≡ Some kind)

kinds_are : OfConstants IsListed
unfolding kind_of plain_rows call_rows fb_rows fd_rows
kinds_are = record {
  global_get = λ f. (kinds.Global, refl);
  i32_const = λ f. (kinds.I32, refl);
  i64_const = λ f. (kinds.I64, refl);
  f32_const = λ f. (kinds.F32, refl);
  f64_const = λ f. (kinds.F64, refl);
  i32_add = λ f. (kinds.Bare, refl);
  i32_sub = λ f. (kinds.Bare, refl);
  i32_mul = λ f. (kinds.Bare, refl);
  i64_add = λ f. (kinds.Bare, refl);
  i64_sub = λ f. (kinds.Bare, refl);
  i64_mul = λ f. (kinds.Bare, refl);
  ref_null = λ f. (kinds.Heap, refl);
  ref_func = λ f. (kinds.Function, refl);
  struct_new = λ f. (kinds.Type, refl);
  struct_new_default = λ f. (kinds.Type, refl);
  array_new = λ f. (kinds.Type, refl);
  array_new_default = λ f. (kinds.Type, refl);
  array_new_fixed = λ f. (kinds.TypeNumber, refl);
  any_convert_extern = λ f. (kinds.Bare, refl);
  extern_convert_any = λ f. (kinds.Bare, refl);
  ref_i31 = λ f. (kinds.Bare, refl);
  v128_const = λ f. (kinds.Vector, refl);
}

-- a code of constant expressions is an operator's whatever the features
pub kind_there : (features : WasmFeatures) (code : OpCode) → is_constant code ≡ true → (kind : Kind) × (kind_of features code ≡ Some kind)
kind_there features code e = constants_are_listed IsListed kinds_are code e features
