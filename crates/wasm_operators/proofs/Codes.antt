-- A code that the table has is spelled: a byte below fb, or a prefix and a number.
use Rattle.std.proofs.Common.{◌≡◌, ◌%◌, ◌^◌, ◌<◌, ◌≤◌, ◌==◌, ◌&&◌, ◌⊎◌, inl, inr, nat_le, ℕ, Bool, true, false, List, [], ◌∷◌, Option, Some, None, refl, arith}
use Rattle.std.proofs.lemmas.Bool.{cases_Bool, cases_lt, eqb-true, leb-true, le-ltb, lt-leb}
use Rattle.wasm_composite_types.specs.wasm_features.declared.WasmFeatures.{WasmFeatures}
use Rattle.wasm_operators.specs.declared.entry.Entry.{Entry}
use Rattle.wasm_operators.specs.declared.entry.Kind.{Kind}
use Rattle.wasm_operators.specs.declared.op_code.OpCode.{OpCode}
use Rattle.wasm_operators.specs.Table.{Row, find, find_byte, find_code, structure_rows, call_rows, plain_rows, fb_rows, fc_rows, fd_rows, fe_rows}
use Rattle.wasm_operators.specs.Operators.{is_prefix, allowed, kind_of}
use Rattle.wasm_operators.specs.Spellings.{SpellsCode}
use Rattle.wasm_operators.specs.Bytes.{unsigned_bytes, code_bytes}
use Rattle.wasm_operators.specs.Written.{prefix_not_zero}
use Rattle.wasm_operators.proofs.Numbers.{u32_fits}

-- no row goes past the bound
abbrev end_by : ℕ → List Row → Bool
end_by bound [] = true
end_by bound (r ∷ rows) = nat_le r.last bound && end_by bound rows

both : (a b : Bool) → (a && b) ≡ true → (a ≡ true) × (b ≡ true)
both true b e = (refl, e)
both false b e = absurd cc

found_below : (rows : List Row) (bound n : ℕ) (e : Entry) → end_by bound rows ≡ true → find rows n ≡ Some e → n ≤ bound
found_below [] bound n e ends found = absurd cc
found_below (r ∷ rows) bound n e ends found =
    let parts = both (nat_le r.last bound) (end_by bound rows) ends in
    elim (cases_Bool (nat_le r.first n && nat_le n r.last)) [
      | inl holds ↦
          let up = leb-true n r.last (both (nat_le r.first n) (nat_le n r.last) holds).1 in
          let last = leb-true r.last bound parts.0 in
          omega (arith, up, last)
      | inr other ↦ found_below rows bound n e parts.1 (rw other at found)
    ]

structure_end : end_by 0x0f structure_rows ≡ true
unfolding structure_rows
structure_end = refl

call_end : end_by 0x26 call_rows ≡ true
unfolding call_rows
call_end = refl

plain_end : end_by 0xd6 plain_rows ≡ true
unfolding plain_rows
plain_end = refl

fb_end : end_by 30 fb_rows ≡ true
unfolding fb_rows
fb_end = refl

fc_end : end_by 22 fc_rows ≡ true
unfolding fc_rows
fc_end = refl

fd_end : end_by 275 fd_rows ≡ true
unfolding fd_rows
fd_end = refl

fe_end : end_by 78 fe_rows ≡ true
unfolding fe_rows
fe_end = refl

byte_low : (n : ℕ) (e : Entry) → find_byte n ≡ Some e → n < 0xfb
byte_low n e found = elim (cases_lt n 0x10) [
  | inl low ↦ omega (arith, low)
  | inr high ↦ elim (cases_lt n 0x28) [
    | inl low ↦ omega (arith, low)
    | inr higher ↦
        let below = found_below plain_rows 0xd6 n e plain_end (rw (le-ltb n 0x10 high, le-ltb n 0x28 higher) at found) in
        omega (arith, below)
  ]
]

abbrev Shape : ℕ → ℕ → Type 0
Shape p n = ((p ≡ 0) × (n < 0xfb)) ⊎ ((is_prefix p ≡ true) × (n < 2 ^ 32))

behind : (p c n bound : ℕ) (rows : List Row) (e : Entry) → (p == c) ≡ true → is_prefix c ≡ true → end_by bound rows ≡ true → bound < 2 ^ 32 → find rows n ≡ Some e → Shape p n
behind p c n bound rows e is isp ends small found =
    let below = found_below rows bound n e ends found in
    inr (rw (eqb-true p c is) isp, omega (arith, below, small))

code_shape : (p n : ℕ) (e : Entry) → find_code p n ≡ Some e → Shape p n
code_shape p n e found = elim (cases_Bool (p == 0)) [
  | inl is ↦ inl (eqb-true p 0 is, byte_low n e (rw is at found))
  | inr not ↦ let found = (rw not at found) in elim (cases_Bool (p == 0xfb)) [
    | inl is ↦ behind p 0xfb n 30 fb_rows e is refl fb_end (omega arith) (rw is at found)
    | inr not ↦ let found = (rw not at found) in elim (cases_Bool (p == 0xfc)) [
      | inl is ↦ behind p 0xfc n 22 fc_rows e is refl fc_end (omega arith) (rw is at found)
      | inr not ↦ let found = (rw not at found) in elim (cases_Bool (p == 0xfd)) [
        | inl is ↦ behind p 0xfd n 275 fd_rows e is refl fd_end (omega arith) (rw is at found)
        | inr not ↦ let found = (rw not at found) in elim (cases_Bool (p == 0xfe)) [
          | inl is ↦ behind p 0xfe n 78 fe_rows e is refl fe_end (omega arith) (rw is at found)
          | inr not ↦ let found = (rw not at found) in absurd cc
        ]
      ]
    ]
  ]
]

known : (features : WasmFeatures) (found : Option Entry) (kind : Kind) → allowed features found ≡ Some kind → (e : Entry) × (found ≡ Some e)
known features None kind h = absurd cc
known features (Some e) kind h = (e, refl)

shaped : (code : OpCode) → Shape code.prefix code.number → SpellsCode (code_bytes code) code
shaped code (inl h) =
    let small = h.1 in
    let byte : code.number % 256 ≡ code.number = omega (arith, small) in
    inl (rw (lt-leb 0xfb code.number small) refl, h.0, rw (h.0, byte) refl)
shaped code (inr h) = inr (h.0, unsigned_bytes code.number, rw (prefix_not_zero code.prefix h.0) refl, u32_fits.has code.number h.1)

pub code_has : (features : WasmFeatures) (code : OpCode) (kind : Kind) → kind_of features code ≡ Some kind → SpellsCode (code_bytes code) code
unfolding kind_of
code_has features code kind h =
    let e = known features (find_code code.prefix code.number) kind h in
    shaped code (code_shape code.prefix code.number e.0 e.1)
