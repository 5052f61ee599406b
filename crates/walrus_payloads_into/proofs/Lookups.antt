-- Which numbers a look-up finds.
use Rattle.std.specs.Prelude.{ℕ, ◌≡◌, nat_lt, Bool, true, false, not, List, length, slice_get, refl}
use Rattle.std.specs.Option.{ok_or}
use Rattle.std.specs.Result.{is_ok}
use Rattle.std.proofs.lemmas.Bool.{cases_lt, lt-ltb, le-ltb}
use Rattle.std.proofs.lemmas.Option.{slice_get-get_or, slice_get_past}
use Rattle.std.proofs.Common.{inl, inr}

pub is_within : {E : Type 0} (xs : List ℕ) (i : ℕ) (e : E) → is_ok (ok_or (slice_get xs i) e) ≡ nat_lt i (length xs)
is_within xs i e = elim (cases_lt i (length xs)) as (λ _. is_ok (ok_or (slice_get xs i) e) ≡ nat_lt i (length xs)) [
  | inl lt ↦ rw (slice_get-get_or xs i 0 lt, lt-ltb i (length xs) lt) refl
  | inr le ↦ rw (slice_get_past xs i le, le-ltb i (length xs) le) refl
]

pub not_false : (b : Bool) → not b ≡ false → b ≡ true
not_false true e = refl
not_false false e = absurd cc
