-- Lemmas: what each row of a list has, and each test that it passes, holds of what is found there.
use Rattle.std.specs.Prelude.{ℕ, ◌+◌, ◌-◌, ◌≤◌, ◌≡◌, ◌==◌, ◌&&◌, nat_le, nat_lt, Bool, true, List, [], ◌∷◌, length, slice_get, Some, zero, suc}
use Rattle.std.proofs.Common.{ap, sym, subst, arith, inl, inr}
use Rattle.std.proofs.lemmas.Bool.{cases_Bool, and_parts, leb-true, eqb-true}
use Rattle.wasm_operators.specs.declared.op_code.OpCode.{OpCode}
use Rattle.wasm_operators.specs.Operators.{op_code}
use Rattle.walrus_codes.specs.Runs.{Run, in_runs}

-- ---- what runs have

-- each operator of a list fits its number
abbrev pub Fits : {A : Type 0} → (ℕ → A → Type 0) → ℕ → List A → Type 0
Fits P n [] = Unit {0}
Fits P n (x ∷ xs) = P n x × Fits P (suc n) xs

abbrev pub AllFit : {A : Type 0} → (ℕ → A → Type 0) → List (Run A) → Type 0
AllFit P [] = Unit {0}
AllFit P (r ∷ rs) = Fits P r.first r.ops × AllFit P rs

-- the same by a test
abbrev pub pass : {A : Type 0} → (ℕ → A → Bool) → ℕ → List A → Bool
pass test n [] = true
pass test n (x ∷ xs) = test n x && pass test (suc n) xs

abbrev pub all_pass : {A : Type 0} → (ℕ → A → Bool) → List (Run A) → Bool
all_pass test [] = true
all_pass test (r ∷ rs) = pass test r.first r.ops && all_pass test rs

module _ {A : Type 0} (P : ℕ → A → Type 0) where
  fits_at : (n : ℕ) (xs : List A) → Fits P n xs → (k : ℕ) (x : A) → slice_get xs k ≡ Some x → P (n + k) x
  fits_at n [] h k x e = absurd cc
  fits_at n (y ∷ ys) h zero x e = let same : y ≡ x = cc in subst (λ m. P m x) (let sum : n ≡ n + 0 = omega arith in sum) (subst (P n) same h.0)
  fits_at n (y ∷ ys) h (suc k) x e = subst (λ m. P m x) (let sum : suc n + k ≡ n + suc k = omega arith in sum) (fits_at (suc n) ys h.1 k x e)

  pub fits_found : (rs : List (Run A)) → AllFit P rs → (n : ℕ) (x : A) → in_runs rs n ≡ Some x → P n x
  fits_found [] h n x e = absurd cc
  fits_found (r ∷ rs) h n x e = elim (cases_Bool (nat_le r.first n && nat_lt n (r.first + length r.ops))) [
    | inl is ↦
        let low : r.first ≤ n = leb-true r.first n (and_parts (nat_le r.first n) _ is).0 in
        let sum : r.first + (n - r.first) ≡ n = omega (arith, low) in
        subst (λ m. P m x) sum (fits_at r.first r.ops h.0 (n - r.first) x (rw is at e))
    | inr out ↦ fits_found rs h.1 n x (rw out at e)
  ]

module _ {A : Type 0} (test : ℕ → A → Bool) where
  abbrev Passes : ℕ → A → Type 0
  Passes n x = test n x ≡ true

  passed : (n : ℕ) (xs : List A) → pass test n xs ≡ true → Fits Passes n xs
  passed n [] e = tt
  passed n (x ∷ xs) e = let parts = and_parts (test n x) (pass test (suc n) xs) e in (parts.0, passed (suc n) xs parts.1)

  all_passed : (rs : List (Run A)) → all_pass test rs ≡ true → AllFit Passes rs
  all_passed [] e = tt
  all_passed (r ∷ rs) e = let parts = and_parts (pass test r.first r.ops) (all_pass test rs) e in (passed r.first r.ops parts.0, all_passed rs parts.1)

-- ---- behind one prefix

pub prefix_found : {A : Type 0} (P : OpCode → A → Type 0) (p : ℕ) (rows : List (Run A)) → AllFit (λ n x. P (op_code p n) x) rows
    → (code : OpCode) (x : A) → (code.prefix == p) ≡ true → in_runs rows code.number ≡ Some x → P code x
prefix_found P p rows fit code x is e =
    let same : op_code p code.number ≡ code = ap (λ (q : ℕ). op_code q code.number) (sym (eqb-true code.prefix p is)) in
    subst (λ c. P c x) same (fits_found (λ n y. P (op_code p n) y) rows fit code.number x e)

pub prefix_passed : {A : Type 0} (test : OpCode → A → Bool) (p : ℕ) (rows : List (Run A)) → all_pass (λ n x. test (op_code p n) x) rows ≡ true
    → (code : OpCode) (x : A) → (code.prefix == p) ≡ true → in_runs rows code.number ≡ Some x → test code x ≡ true
prefix_passed test p rows h code x is e = prefix_found (λ c y. test c y ≡ true) p rows (all_passed (λ n y. test (op_code p n) y) rows h) code x is e
