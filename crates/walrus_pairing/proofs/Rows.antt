-- Lemmas: what a test finds in each row of the table of operators holds of each operator in it.
use Rattle.std.specs.Prelude.{ℕ, zero, suc, ◌+◌, ◌-◌, ◌<◌, ◌≤◌, ◌≡◌, ◌==◌, ◌&&◌, nat_le, nat_lt, Bool, true, List, [], ◌∷◌, Some, None, if◌then◌else◌}
use Rattle.std.proofs.Common.{sym, subst, arith, inl, inr}
use Rattle.std.proofs.lemmas.Bool.{cases_Bool, cases_lt, and_parts, leb-true, eqb-true}
use Rattle.wasm_operators.specs.declared.entry.Entry.{Entry}
use Rattle.wasm_operators.specs.Table.{Row, find, structure_rows, call_rows, plain_rows, fb_rows, fc_rows, fd_rows, fe_rows, find_byte, find_code}

-- so many numbers from n on pass
abbrev pub from : (ℕ → Bool) → ℕ → ℕ → Bool
from test zero n = true
from test (suc count) n = test n && from test count (suc n)

from_holds : (test : ℕ → Bool) (count n : ℕ) → from test count n ≡ true → (m : ℕ) → n ≤ m → m < n + count → test m ≡ true
from_holds test zero n e m low high = absurd (omega arith)
from_holds test (suc count) n e m low high = elim (cases_lt n m) [
  | inl above ↦ from_holds test count (suc n) (and_parts (test n) (from test count (suc n)) e).1 m (omega arith) (omega arith)
  | inr below ↦
      let same : n ≡ m = omega arith in
      subst (λ k. test k ≡ true) same (and_parts (test n) (from test count (suc n)) e).0
]

abbrev pub row_passes : (Entry → ℕ → Bool) → Row → Bool
row_passes test r = from (test r.entry) (r.last + 1 - r.first) r.first

abbrev pub rows_pass : (Entry → ℕ → Bool) → List Row → Bool
rows_pass test [] = true
rows_pass test (r ∷ rows) = row_passes test r && rows_pass test rows

rows_hold : (test : Entry → ℕ → Bool) (rows : List Row) → rows_pass test rows ≡ true → (n : ℕ) (e : Entry) → find rows n ≡ Some e → test e n ≡ true
rows_hold test [] pass n e found = absurd cc
rows_hold test (r ∷ rows) pass n e found = elim (cases_Bool (nat_le r.first n && nat_le n r.last)) [
  | inl is ↦
      let parts = and_parts (nat_le r.first n) (nat_le n r.last) is in
      let low : r.first ≤ n = leb-true r.first n parts.0 in
      let high : n ≤ r.last = leb-true n r.last parts.1 in
      let below : n < r.first + (r.last + 1 - r.first) = omega (arith, low, high) in
      let same : r.entry ≡ e = (let w = (rw is at found) in cc) in
      subst (λ x. test x n ≡ true) same (from_holds (test r.entry) (r.last + 1 - r.first) r.first (and_parts (row_passes test r) (rows_pass test rows) pass).0 n low below)
  | inr out ↦ rows_hold test rows (and_parts (row_passes test r) (rows_pass test rows) pass).1 n e (rw out at found)
]

-- a test of prefix, entry and number that passes in each row
pub record TablePasses (test : ℕ → Entry → ℕ → Bool) : Type 0 where
  pub structure : rows_pass (test 0) structure_rows ≡ true
  pub call : rows_pass (test 0) call_rows ≡ true
  pub plain : rows_pass (test 0) plain_rows ≡ true
  pub fb : rows_pass (test 0xfb) fb_rows ≡ true
  pub fc : rows_pass (test 0xfc) fc_rows ≡ true
  pub fd : rows_pass (test 0xfd) fd_rows ≡ true
  pub fe : rows_pass (test 0xfe) fe_rows ≡ true

module _ (test : ℕ → Entry → ℕ → Bool) (pass : TablePasses test) where
  byte_holds : (n : ℕ) (e : Entry) → find_byte n ≡ Some e → test 0 e n ≡ true
  byte_holds n e found = elim (cases_Bool (nat_lt n 0x10)) [
    | inl is ↦ rows_hold (test 0) structure_rows pass.structure n e (rw is at found)
    | inr out ↦ calls (rw out at found)
  ]
    where
      calls : (if nat_lt n 0x28 then find call_rows n else find plain_rows n) ≡ Some e → test 0 e n ≡ true
      calls found = elim (cases_Bool (nat_lt n 0x28)) [
        | inl is ↦ rows_hold (test 0) call_rows pass.call n e (rw is at found)
        | inr out ↦ rows_hold (test 0) plain_rows pass.plain n e (rw out at found)
      ]

  -- behind one prefix
  behind : (p q n : ℕ) (rows : List Row) (e : Entry) → rows_pass (test q) rows ≡ true → (p == q) ≡ true → find rows n ≡ Some e → test p e n ≡ true
  behind p q n rows e h is found = subst (λ x. test x e n ≡ true) (sym (eqb-true p q is)) (rows_hold (test q) rows h n e found)

  pub table_holds : (p n : ℕ) (e : Entry) → find_code p n ≡ Some e → test p e n ≡ true
  table_holds p n e found = elim (cases_Bool (p == 0)) [
    | inl is ↦ subst (λ x. test x e n ≡ true) (sym (eqb-true p 0 is)) (byte_holds n e (rw is at found))
    | inr out ↦ objects (rw out at found)
  ]
    where
      atomics : (if p == 0xfe then find fe_rows n else None) ≡ Some e → test p e n ≡ true
      atomics found = elim (cases_Bool (p == 0xfe)) [
        | inl is ↦ behind p 0xfe n fe_rows e pass.fe is (rw is at found)
        | inr out ↦ absurd (let w = (rw out at found) in cc)
      ]

      vectors : (if p == 0xfd then find fd_rows n else (if p == 0xfe then find fe_rows n else None)) ≡ Some e → test p e n ≡ true
      vectors found = elim (cases_Bool (p == 0xfd)) [
        | inl is ↦ behind p 0xfd n fd_rows e pass.fd is (rw is at found)
        | inr out ↦ atomics (rw out at found)
      ]

      bulks : (if p == 0xfc then find fc_rows n else (if p == 0xfd then find fd_rows n else (if p == 0xfe then find fe_rows n else None))) ≡ Some e → test p e n ≡ true
      bulks found = elim (cases_Bool (p == 0xfc)) [
        | inl is ↦ behind p 0xfc n fc_rows e pass.fc is (rw is at found)
        | inr out ↦ vectors (rw out at found)
      ]

      objects : (if p == 0xfb then find fb_rows n else (if p == 0xfc then find fc_rows n else (if p == 0xfd then find fd_rows n else (if p == 0xfe then find fe_rows n else None)))) ≡ Some e → test p e n ≡ true
      objects found = elim (cases_Bool (p == 0xfb)) [
        | inl is ↦ behind p 0xfb n fb_rows e pass.fb is (rw is at found)
        | inr out ↦ bulks (rw out at found)
      ]
