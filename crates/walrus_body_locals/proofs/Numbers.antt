-- Lemmas: the numbers of those that are kept, one after another.
use Rattle.std.proofs.Common.{ℕ, zero, suc, ◌≡◌, ◌+◌, ◌-◌, ◌<◌, ◌≤◌, Bool, true, false, List, [], ◌∷◌, ◌++◌, length, replicate, drop, slice_get, Option, Some, None, nat_lt, if◌then◌else◌, refl, ap, sym, ◌∙◌, arith}
use Rattle.walrus_body_locals.specs.Named.{kept_numbers}

pub heads_from : (from : ℕ) (ks : List Bool) (n : ℕ) (ns : List ℕ) → n ∷ ns ≡ kept_numbers from ks → from ≤ n
heads_from from [] n ns e = absurd cc
heads_from from (true ∷ ks) n ns e = let same : n ≡ from = cc in omega (arith, same)
heads_from from (false ∷ ks) n ns e = let le = heads_from (suc from) ks n ns e in omega (arith, le)

-- the next one that is kept, behind some that aren't
pub record Next (from n : ℕ) (left more : List Bool) (ns : List ℕ) : Type 0 where
  pub behind : List Bool
  pub split : left ≡ replicate (n - from) false ++ true ∷ behind
  pub from_below : from ≤ n
  pub follow : ns ≡ kept_numbers (suc n) (behind ++ more)

pub next_kept : (from n : ℕ) (left more : List Bool) (ns : List ℕ) → n ∷ ns ≡ kept_numbers from (left ++ more) → n < from + length left → Next from n left more ns
next_kept from n [] more ns e lt = let le = heads_from from more n ns e in absurd (omega (arith, le, lt))
next_kept from n (true ∷ left) more ns e lt =
    let same : n ≡ from = cc in
    let rest : ns ≡ kept_numbers (suc from) (left ++ more) = cc in
    record {
      behind = left;
      split = ap (λ (k : ℕ). replicate k false ++ true ∷ left) (let z : 0 ≡ n - from = omega (arith, same) in z);
      from_below = omega (arith, same);
      follow = rest ∙ ap (λ (k : ℕ). kept_numbers (suc k) (left ++ more)) (sym same);
    }
next_kept from n (false ∷ left) more ns e lt =
    let r = next_kept (suc from) n left more ns e (omega (arith, lt)) in
    let le = r.from_below in
    record {
      behind = r.behind;
      split = ap (λ (l : List Bool). false ∷ l) r.split ∙ ap (λ (k : ℕ). replicate k false ++ true ∷ r.behind) (let z : suc (n - suc from) ≡ n - from = omega (arith, le) in z);
      from_below = omega (arith, le);
      follow = r.follow;
    }

-- where the next one is behind all that are left, none of these is kept
pub none_left : (from : ℕ) (left more : List Bool) (ns : List ℕ) → ns ≡ kept_numbers from (left ++ more) → ((n : ℕ) (rest : List ℕ) → ns ≡ n ∷ rest → from + length left ≤ n)
    → (left ≡ replicate (length left) false) × (ns ≡ kept_numbers (from + length left) more)
none_left from [] more ns e far = (refl, e ∙ ap (λ (k : ℕ). kept_numbers k more) (let z : from ≡ from + 0 = omega arith in z))
none_left from (true ∷ left) more ns e far = let le = far from (kept_numbers (suc from) (left ++ more)) e in absurd (omega (arith, le))
none_left from (false ∷ left) more ns e far =
    let r = none_left (suc from) left more ns e (λ n rest h. let le = far n rest h in omega (arith, le)) in (
      ap (λ (l : List Bool). false ∷ l) r.0,
      r.1 ∙ ap (λ (k : ℕ). kept_numbers k more) (let z : suc from + length left ≡ from + suc (length left) = omega arith in z),
    )
