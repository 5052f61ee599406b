-- Positions, keys, and what a sort leaves of them.
use Rattle.std.proofs.Common.{ℕ, zero, suc, ◌+◌, ◌<◌, ◌≤◌, ◌≡◌, List, [], ◌∷◌, ◌++◌, length, map, get_or, ◌-◌, ◌^◌, refl, ap, sym, ◌∙◌, subst, arith}
use Rattle.std.specs.Prelude.{All}
use Rattle.std.specs.List.Sorted.{IsPermutation, IsSorted}
use Rattle.std.proofs.lemmas.List.{map-append}
use Rattle.std.proofs.lemmas.List.Elements.{All-cons, All-nil}
use Rattle.std.proofs.lemmas.List.Sorted.{All-permutation, IsPermutation-map}
use Rattle.walrus_index_maps.specs.Runs.{run_from}
use Rattle.walrus_emit_numbers.specs.declared.facts.BodyFacts.{BodyFacts}
use Rattle.walrus_emit_numbers.specs.Order.{AreWithin, key_at, key_cmp}

run_more : (first n : ℕ) → run_from first (suc n) ≡ run_from first n ++ (first + n) ∷ []
run_more first zero = ap (λ (k : ℕ). k ∷ []) (omega arith)
run_more first (suc n) =
    let same : suc first + n ≡ first + suc n = omega arith in
    ap (λ (l : List ℕ). first ∷ l) (run_more (suc first) n) ∙ ap (λ (k : ℕ). first ∷ (run_from (suc first) n ++ k ∷ [])) same

pub run_at : (at : ℕ) → run_from 0 (at + 1) ≡ run_from 0 at ++ at ∷ []
run_at at =
    let next : at + 1 ≡ suc at = omega arith in
    let none : 0 + at ≡ at = omega arith in
    ap (run_from 0) next ∙ run_more 0 at ∙ ap (λ (k : ℕ). run_from 0 at ++ k ∷ []) none

run_below : (first n most : ℕ) → first + n ≤ most → All (λ (at : ℕ). at < most) (run_from first n)
run_below first zero most le = All-nil (λ (at : ℕ). at < most)
run_below first (suc n) most le = All-cons (λ (at : ℕ). at < most) first (run_from (suc first) n) (omega (arith, le)) (run_below (suc first) n most (omega (arith, le)))

abbrev pub position : ℕ × ℕ × ℕ → ℕ
position key = key.2

positions_of : (facts : List BodyFacts) (places : List ℕ) → map position (map (key_at facts) places) ≡ places
positions_of facts [] = refl
positions_of facts (p ∷ places) = ap (λ (l : List ℕ). p ∷ l) (positions_of facts places)

key_is : (facts : List BodyFacts) (at : ℕ) (body : BodyFacts) → at < length facts → body ≡ get_or facts at body → (2 ^ 64 - 1 - body.size, body.function, at) ≡ key_at facts at
key_is [] at body lt e = absurd (omega (arith, lt))
key_is (f ∷ facts) zero body lt e = ap (λ (b : BodyFacts). (2 ^ 64 - 1 - b.size, b.function, zero)) e
key_is (f ∷ facts) (suc at) body lt e = ap (λ (k : ℕ × ℕ × ℕ). (k.0, k.1, suc at)) (key_is facts at body (omega (arith, lt)) e)

-- one key more
pub keys_more : (facts : List BodyFacts) (keys : List (ℕ × ℕ × ℕ)) (at function : ℕ) (body : BodyFacts) → at < length facts → body ≡ get_or facts at body → function ≡ body.function
    → keys ≡ map (key_at facts) (run_from 0 at) → keys ++ (2 ^ 64 - 1 - body.size, function, at) ∷ [] ≡ map (key_at facts) (run_from 0 (at + 1))
keys_more facts keys at function body lt is same h =
    let key = key_at facts at in
    ap (λ (l : List (ℕ × ℕ × ℕ)). l ++ (2 ^ 64 - 1 - body.size, function, at) ∷ []) h
    ∙ ap (λ (f : ℕ). map (key_at facts) (run_from 0 at) ++ (2 ^ 64 - 1 - body.size, f, at) ∷ []) same
    ∙ ap (λ (k : ℕ × ℕ × ℕ). map (key_at facts) (run_from 0 at) ++ k ∷ []) (key_is facts at body lt is)
    ∙ sym (ap (map (key_at facts)) (run_at at) ∙ map-append (key_at facts) (run_from 0 at) (at ∷ []))

-- a key tells its position, and so itself
abbrev IsKeyed : List BodyFacts → ℕ × ℕ × ℕ → Type 0
IsKeyed facts key = key_at facts (position key) ≡ key

keyed : (facts : List BodyFacts) (places : List ℕ) → All (IsKeyed facts) (map (key_at facts) places)
keyed facts [] = All-nil (IsKeyed facts)
keyed facts (p ∷ places) = All-cons (IsKeyed facts) (key_at facts p) (map (key_at facts) places) refl (keyed facts places)

keys_again : (facts : List BodyFacts) (keys : List (ℕ × ℕ × ℕ)) → All (IsKeyed facts) keys → map (key_at facts) (map position keys) ≡ keys
keys_again facts [] h = refl
keys_again facts (k ∷ keys) h =
    ap (λ (l : List (ℕ × ℕ × ℕ)). key_at facts (position k) ∷ l) (keys_again facts keys (λ i d lt. h (suc i) d (omega (arith, lt))))
    ∙ ap (λ (key : ℕ × ℕ × ℕ). key ∷ keys) (h 0 k (omega arith))

module _ (facts : List BodyFacts) (keys sorted : List (ℕ × ℕ × ℕ)) (order : List ℕ) (n : ℕ) where
  pub order_sorted : keys ≡ map (key_at facts) (run_from 0 n) → IsPermutation keys sorted → IsSorted key_cmp sorted → order ≡ map position sorted → IsSorted key_cmp (map (key_at facts) order)
  order_sorted are moved rises is =
      let all : All (IsKeyed facts) sorted = All-permutation (IsKeyed facts) keys sorted moved (subst (λ (l : List (ℕ × ℕ × ℕ)). All (IsKeyed facts) l) (sym are) (keyed facts (run_from 0 n))) in
      subst (λ (l : List (ℕ × ℕ × ℕ)). IsSorted key_cmp l) (sym (ap (map (key_at facts)) is ∙ keys_again facts sorted all)) rises

  pub order_moved : n ≡ length facts → keys ≡ map (key_at facts) (run_from 0 n) → IsPermutation keys sorted → order ≡ map position sorted → IsPermutation (run_from 0 (length facts)) order
  order_moved e are moved is =
      let before : map position keys ≡ run_from 0 (length facts) = ap (map position) are ∙ positions_of facts (run_from 0 n) ∙ ap (run_from 0) e in
      subst (λ (l : List ℕ). IsPermutation (run_from 0 (length facts)) l) (sym is) (subst (λ (l : List ℕ). IsPermutation l (map position sorted)) before (IsPermutation-map position keys sorted moved))

pub order_within : (facts : List BodyFacts) (order : List ℕ) → IsPermutation (run_from 0 (length facts)) order → AreWithin facts order
order_within facts order moved = All-permutation (λ (at : ℕ). at < length facts) (run_from 0 (length facts)) order moved (run_below 0 (length facts) (length facts) (omega arith))
