-- Lemmas: entries by number say what the rows say.
use Rattle.std.proofs.Common.{◌≡◌, ◌≤◌, ◌&&◌, ◌∙◌, inl, inr, nat_le, nat_lt, ℕ, Bool, true, false, List, [], ◌∷◌, Option, None, refl, sym, arith, map, slice_index_or}
use Rattle.std.specs.List.{range_with_len}
use Rattle.std.proofs.lemmas.Bool.{cases_Bool, cases_lt, leb-true, ltb-true, le-ltb}
use Rattle.std.proofs.lemmas.List.{get_or_past}
use Rattle.std.proofs.lemmas.List.FromFn.{get_or-map-range_with_len, length-map-range_with_len}
use Rattle.wasm_operators.specs.declared.entry.Entry.{Entry}
use Rattle.wasm_operators.specs.Table.{Row, find, find_byte, plain_rows}

-- no row goes as far as that
abbrev pub end_before : ℕ → List Row → Bool
end_before size [] = true
end_before size (r ∷ rows) = nat_lt r.last size && end_before size rows

both : (a b : Bool) → (a && b) ≡ true → (a ≡ true) × (b ≡ true)
both true b e = (refl, e)
both false b e = absurd cc

pub past : (rows : List Row) (size n : ℕ) → end_before size rows ≡ true → size ≤ n → find rows n ≡ None
past [] size n ends out = refl
past (r ∷ rows) size n ends out =
    let parts = both (nat_lt r.last size) (end_before size rows) ends in
    elim (cases_Bool (nat_le r.first n && nat_le n r.last)) [
      | inl holds ↦
          let up = leb-true n r.last (both (nat_le r.first n) (nat_le n r.last) holds).1 in
          let last = ltb-true r.last size parts.0 in
          absurd (omega (arith, up, last, out))
      | inr other ↦ rw other (past rows size n parts.1 out)
    ]

pub byte_past : (n : ℕ) → 215 ≤ n → find_byte n ≡ None
unfolding plain_rows
byte_past n out = rw (le-ltb n 0x10 (omega (arith, out)), le-ltb n 0x28 (omega (arith, out))) (past plain_rows 215 n refl out)

-- what stands at a number, if these are the entries of all numbers below their count, and there are no others
pub stands_at : (f : ℕ → Option Entry) (size n : ℕ) (entries : List (Option Entry)) → entries ≡ map f (range_with_len 0 size) → (size ≤ n → f n ≡ None)
    → slice_index_or entries n None ≡ f n
stands_at f size n entries same past = rw same (elim (cases_lt n size) [
  | inl low ↦ get_or-map-range_with_len f 0 size n n None low (omega arith)
  | inr high ↦ get_or_past (map f (range_with_len 0 size)) n None (rw (length-map-range_with_len f 0 size) high) ∙ sym (past high)
])
