-- Lemmas: the entry of all numbers of a range that lies in one row.
use Rattle.std.specs.Prelude.{ℕ, ◌<◌, ◌≤◌, ◌≡◌, ◌&&◌, nat_le, nat_lt, List, [], ◌∷◌, Option, Some, None, if◌then◌else◌, true, false}
use Rattle.std.proofs.Common.{arith, inl, inr, refl}
use Rattle.std.proofs.lemmas.Bool.{cases_Bool, and_parts, leb-true, le-leb, ltb-true, lt-leb, lt-ltb, le-ltb}
use Rattle.walrus_pairing.specs.wasm_operators.declared.entry.Entry.{Entry}
use Rattle.walrus_pairing.specs.wasm_operators.Table.{Row, find, structure_rows, call_rows, plain_rows, find_code}

-- of the numbers of a range, if one row has them all, and none in front of it has any
abbrev pub entry_in : List Row → ℕ → ℕ → Option Entry
entry_in [] first last = None
entry_in (r ∷ rows) first last =
    if nat_le r.first first && nat_le last r.last then Some r.entry
    else (if nat_lt r.last first then entry_in rows first last else None)

holds_all : (r : Row) (first last n : ℕ) → (nat_le r.first first && nat_le last r.last) ≡ true → first ≤ n → n ≤ last → (nat_le r.first n && nat_le n r.last) ≡ true
holds_all r first last n holds low high =
    let parts = and_parts (nat_le r.first first) (nat_le last r.last) holds in
    let from = leb-true r.first first parts.0 in
    let to = leb-true last r.last parts.1 in
    rw (le-leb r.first n (omega (arith, from, low)), le-leb n r.last (omega (arith, to, high))) refl

past_it : (r : Row) (first n : ℕ) → nat_lt r.last first ≡ true → first ≤ n → (nat_le r.first n && nat_le n r.last) ≡ false
past_it r first n past low =
    let over = ltb-true r.last first past in
    rw (lt-leb n r.last (omega (arith, over, low))) (elim (cases_Bool (nat_le r.first n)) [ inl is ↦ rw is refl | inr out ↦ rw out refl ])

row_found : (rows : List Row) (first last n : ℕ) (e : Entry) → entry_in rows first last ≡ Some e → first ≤ n → n ≤ last → find rows n ≡ Some e
row_found [] first last n e is low high = absurd cc
row_found (r ∷ rows) first last n e is low high = elim (cases_Bool (nat_le r.first first && nat_le last r.last)) [
  | inl holds ↦ rw (holds_all r first last n holds low high) (rw holds at is)
  | inr other ↦ elim (cases_Bool (nat_lt r.last first)) [
    | inl past ↦ rw (past_it r first n past low) (row_found rows first last n e (rw (other, past) at is) low high)
    | inr not ↦ absurd (let w = (rw (other, not) at is) in cc)
  ]
]

-- what the table says of a byte, and that it is no prefix
abbrev pub Stands : ℕ → Entry → Type 0
Stands n e = (n < 0xfb) × (find_code 0 n ≡ Some e)

pub in_structure : (first last n : ℕ) (e : Entry) → entry_in structure_rows first last ≡ Some e → last < 0x10 → first ≤ n → n ≤ last → Stands n e
in_structure first last n e is ends low high = (omega (arith, ends, high), rw (lt-ltb n 0x10 (omega (arith, ends, high))) (row_found structure_rows first last n e is low high))

pub in_calls : (first last n : ℕ) (e : Entry) → entry_in call_rows first last ≡ Some e → 0x10 ≤ first → last < 0x28 → first ≤ n → n ≤ last → Stands n e
in_calls first last n e is begins ends low high =
    (omega (arith, ends, high), rw (le-ltb n 0x10 (omega (arith, begins, low)), lt-ltb n 0x28 (omega (arith, ends, high))) (row_found call_rows first last n e is low high))

pub in_plain : (first last n : ℕ) (e : Entry) → entry_in plain_rows first last ≡ Some e → 0x28 ≤ first → last < 0xfb → first ≤ n → n ≤ last → Stands n e
in_plain first last n e is begins ends low high =
    (omega (arith, ends, high), rw (le-ltb n 0x10 (omega (arith, begins, low)), le-ltb n 0x28 (omega (arith, begins, low))) (row_found plain_rows first last n e is low high))
