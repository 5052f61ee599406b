-- The table of operators, computed.
use Rattle.std.specs.Prelude.{ℕ, ◌≤◌, ◌≡◌, ◌&&◌, nat_le, nat_lt, Bool, true, false, List, [], ◌∷◌, ◌++◌, Option, Some, None, if◌then◌else◌, refl}
use Rattle.std.proofs.Common.{arith}
use Rattle.std.proofs.lemmas.Bool.{ltb-true, le-ltb, lt-leb}
use Rattle.wasm_operators.specs.Table.{Row, find, plain_rows, fb_rows, fc_rows, fd_rows, fe_rows}
use Rattle.wasm_body_grammar_tests.specs.Codes.{missing, is_legacy, is_wide, gated, NoneFrom, CodesHold}

-- ---- behind the last row

-- all rows end before the bound
abbrev ends_by : ℕ → List Row → Bool
ends_by bound [] = true
ends_by bound (r ∷ rows) = nat_lt r.last bound && ends_by bound rows

both : (a b : Bool) → (a && b) ≡ true → (a ≡ true) × (b ≡ true)
both true b e = (refl, e)
both false b e = absurd cc

find_none : (rows : List Row) (bound n : ℕ) → ends_by bound rows ≡ true → bound ≤ n → find rows n ≡ None
find_none [] bound n ends le = refl
find_none (r ∷ rows) bound n ends le =
    let parts = both (nat_lt r.last bound) (ends_by bound rows) ends in
    let lt = ltb-true r.last bound parts.0 in
    rw (lt-leb n r.last (omega (arith, lt, le))) (go (nat_le r.first n) (find_none rows bound n parts.1 le))
  where
    go : (b : Bool) → find rows n ≡ None → (if b && false then Some r.entry else find rows n) ≡ None
    go true e = e
    go false e = e

-- ---- each number

bytes_hold : missing 0 0xd7 ≡ 0x16 ∷ 0x17 ∷ 0x1d ∷ 0x1e ∷ 0x27 ∷ 0xc5 ∷ 0xc6 ∷ 0xc7 ∷ 0xc8 ∷ 0xc9 ∷ 0xca ∷ 0xcb ∷ 0xcc ∷ 0xcd ∷ 0xce ∷ 0xcf ∷ []
unfolding Rattle.wasm_operators.specs.Table.structure_rows Rattle.wasm_operators.specs.Table.call_rows Rattle.wasm_operators.specs.Table.plain_rows Rattle.wasm_operators.specs.Table.fb_rows Rattle.wasm_operators.specs.Table.fc_rows Rattle.wasm_operators.specs.Table.fd_rows Rattle.wasm_operators.specs.Table.fe_rows
bytes_hold = refl

objects_hold : missing 0xfb 31 ≡ []
unfolding Rattle.wasm_operators.specs.Table.structure_rows Rattle.wasm_operators.specs.Table.call_rows Rattle.wasm_operators.specs.Table.plain_rows Rattle.wasm_operators.specs.Table.fb_rows Rattle.wasm_operators.specs.Table.fc_rows Rattle.wasm_operators.specs.Table.fd_rows Rattle.wasm_operators.specs.Table.fe_rows
objects_hold = refl

bulk_hold : missing 0xfc 23 ≡ 18 ∷ []
unfolding Rattle.wasm_operators.specs.Table.structure_rows Rattle.wasm_operators.specs.Table.call_rows Rattle.wasm_operators.specs.Table.plain_rows Rattle.wasm_operators.specs.Table.fb_rows Rattle.wasm_operators.specs.Table.fc_rows Rattle.wasm_operators.specs.Table.fd_rows Rattle.wasm_operators.specs.Table.fe_rows
bulk_hold = refl

vectors_hold : missing 0xfd 276 ≡ 154 ∷ 162 ∷ 165 ∷ 166 ∷ 175 ∷ 176 ∷ 178 ∷ 179 ∷ 180 ∷ 187 ∷ 194 ∷ 197 ∷ 198 ∷ 207 ∷ 208 ∷ 210 ∷ 211 ∷ 212 ∷ 226 ∷ 238 ∷ []
unfolding Rattle.wasm_operators.specs.Table.structure_rows Rattle.wasm_operators.specs.Table.call_rows Rattle.wasm_operators.specs.Table.plain_rows Rattle.wasm_operators.specs.Table.fb_rows Rattle.wasm_operators.specs.Table.fc_rows Rattle.wasm_operators.specs.Table.fd_rows Rattle.wasm_operators.specs.Table.fe_rows
vectors_hold = refl

atomics_hold : missing 0xfe 79 ≡ 4 ∷ 5 ∷ 6 ∷ 7 ∷ 8 ∷ 9 ∷ 10 ∷ 11 ∷ 12 ∷ 13 ∷ 14 ∷ 15 ∷ []
unfolding Rattle.wasm_operators.specs.Table.structure_rows Rattle.wasm_operators.specs.Table.call_rows Rattle.wasm_operators.specs.Table.plain_rows Rattle.wasm_operators.specs.Table.fb_rows Rattle.wasm_operators.specs.Table.fc_rows Rattle.wasm_operators.specs.Table.fd_rows Rattle.wasm_operators.specs.Table.fe_rows
atomics_hold = refl

legacy_holds : gated is_legacy 0 0xd7 ≡ 0x06 ∷ 0x07 ∷ 0x09 ∷ 0x18 ∷ 0x19 ∷ []
unfolding Rattle.wasm_operators.specs.Table.structure_rows Rattle.wasm_operators.specs.Table.call_rows Rattle.wasm_operators.specs.Table.plain_rows Rattle.wasm_operators.specs.Table.fb_rows Rattle.wasm_operators.specs.Table.fc_rows Rattle.wasm_operators.specs.Table.fd_rows Rattle.wasm_operators.specs.Table.fe_rows
legacy_holds = refl

wide_holds : gated is_wide 0xfc 23 ≡ 19 ∷ 20 ∷ 21 ∷ 22 ∷ []
unfolding Rattle.wasm_operators.specs.Table.structure_rows Rattle.wasm_operators.specs.Table.call_rows Rattle.wasm_operators.specs.Table.plain_rows Rattle.wasm_operators.specs.Table.fb_rows Rattle.wasm_operators.specs.Table.fc_rows Rattle.wasm_operators.specs.Table.fd_rows Rattle.wasm_operators.specs.Table.fe_rows
wide_holds = refl

legacy_behind : gated is_legacy 0xfb 31 ++ gated is_legacy 0xfc 23 ++ gated is_legacy 0xfd 276 ++ gated is_legacy 0xfe 79 ≡ []
unfolding Rattle.wasm_operators.specs.Table.structure_rows Rattle.wasm_operators.specs.Table.call_rows Rattle.wasm_operators.specs.Table.plain_rows Rattle.wasm_operators.specs.Table.fb_rows Rattle.wasm_operators.specs.Table.fc_rows Rattle.wasm_operators.specs.Table.fd_rows Rattle.wasm_operators.specs.Table.fe_rows
legacy_behind = refl

wide_elsewhere : gated is_wide 0 0xd7 ++ gated is_wide 0xfb 31 ++ gated is_wide 0xfd 276 ++ gated is_wide 0xfe 79 ≡ []
unfolding Rattle.wasm_operators.specs.Table.structure_rows Rattle.wasm_operators.specs.Table.call_rows Rattle.wasm_operators.specs.Table.plain_rows Rattle.wasm_operators.specs.Table.fb_rows Rattle.wasm_operators.specs.Table.fc_rows Rattle.wasm_operators.specs.Table.fd_rows Rattle.wasm_operators.specs.Table.fe_rows
wide_elsewhere = refl

-- ---- and behind them

plain_end : ends_by 0xd7 plain_rows ≡ true
unfolding Rattle.wasm_operators.specs.Table.plain_rows
plain_end = refl

fb_end : ends_by 31 fb_rows ≡ true
unfolding Rattle.wasm_operators.specs.Table.fb_rows
fb_end = refl

fc_end : ends_by 23 fc_rows ≡ true
unfolding Rattle.wasm_operators.specs.Table.fc_rows
fc_end = refl

fd_end : ends_by 276 fd_rows ≡ true
unfolding Rattle.wasm_operators.specs.Table.fd_rows
fd_end = refl

fe_end : ends_by 79 fe_rows ≡ true
unfolding Rattle.wasm_operators.specs.Table.fe_rows
fe_end = refl

bytes_end : NoneFrom 0 0xd7
bytes_end n le = rw (le-ltb n 0x10 (omega (arith, le)), le-ltb n 0x28 (omega (arith, le))) (find_none plain_rows 0xd7 n plain_end le)

pub codes_hold : CodesHold
codes_hold = record {
  bytes = bytes_hold;
  objects = objects_hold;
  bulk = bulk_hold;
  vectors = vectors_hold;
  atomics = atomics_hold;
  bytes_end = bytes_end;
  objects_end = λ n le. find_none fb_rows 31 n fb_end le;
  bulk_end = λ n le. find_none fc_rows 23 n fc_end le;
  vectors_end = λ n le. find_none fd_rows 276 n fd_end le;
  atomics_end = λ n le. find_none fe_rows 79 n fe_end le;
  legacy = legacy_holds;
  wide = wide_holds;
  legacy_behind = legacy_behind;
  wide_elsewhere = wide_elsewhere;
}
