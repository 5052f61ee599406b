-- Lemmas: lists of the same members in one strict order are one.
use Rattle.std.specs.Prelude.{ℕ, zero, suc, ◌≡◌, ◌<◌, ◌⊎◌, true, false, Bool, List, [], ◌∷◌, Option, Some, None, IsSome, slice_get, slice_index_or, refl}
use Rattle.std.specs.List.{AllByRecursion}
use Rattle.std.proofs.Common.{sym, ◌∙◌, subst, arith, inl, inr}
use Rattle.std.proofs.lemmas.Option.{none-some, same_Some}
use Rattle.walrus_types.proofs.Places.{Has, Pairs}
use Rattle.wasm_part.specs.Closed.{Rise}
use Rattle.wasm_part.specs.Kept.{AreFilled}

head_has : {A : Type 0} (y : A) (ys : List A) (x : A) → Has (y ∷ ys) x → (y ≡ x) ⊎ Has ys x
head_has y ys x (zero, at) = inl (same_Some y x at)
head_has y ys x (suc p, at) = inr (p, at)

module _ {A : Type 0} (R : A → A → Type 0) (apart : (a b : A) → R a b → R b a → ⊥) where
  heads : (x y : A) (xs ys : List A) → ((n : A) → Has (x ∷ xs) n → Has (y ∷ ys) n) → ((n : A) → Has (y ∷ ys) n → Has (x ∷ xs) n) → Pairs R (x ∷ xs) → Pairs R (y ∷ ys) → x ≡ y
  heads x y xs ys forth back px py =
      elim (head_has y ys x (forth x (0, refl))) as (λ _. x ≡ y) [
        | inl e ↦ sym e
        | inr h ↦ elim (head_has x xs y (back y (0, refl))) as (λ _. x ≡ y) [
          | inl e ↦ e
          | inr k ↦ absurd (apart x y (px 0 (suc k.0) x y (omega arith) refl k.1) (py 0 (suc h.0) y x (omega arith) refl h.1))
        ]
      ]

  behind : (x y : A) (xs ys : List A) → x ≡ y → Pairs R (x ∷ xs) → ((n : A) → Has (x ∷ xs) n → Has (y ∷ ys) n) → (n : A) → Has xs n → Has ys n
  behind x y xs ys e px forth n h =
      elim (head_has y ys n (forth n (suc h.0, h.1))) as (λ _. Has ys n) [
        | inl is ↦
            let r : R x n = px 0 (suc h.0) x n (omega arith) refl h.1 in
            let own : R n n = subst (λ (z : A). R z n) (e ∙ is) r in
            absurd (apart n n own own)
        | inr k ↦ k
      ]

  rest_pairs : (x : A) (xs : List A) → Pairs R (x ∷ xs) → Pairs R xs
  rest_pairs x xs pairs = λ p q a b before at_p at_q. pairs (suc p) (suc q) a b (omega (arith, before)) at_p at_q

  pub one_sorted : (xs ys : List A) → ((n : A) → Has xs n → Has ys n) → ((n : A) → Has ys n → Has xs n) → Pairs R xs → Pairs R ys → xs ≡ ys
  one_sorted [] [] forth back px py = refl
  one_sorted [] (y ∷ ys) forth back px py = let h = back y (0, refl) in absurd (none-some y h.1)
  one_sorted (x ∷ xs) [] forth back px py = let h = forth x (0, refl) in absurd (none-some x h.1)
  one_sorted (x ∷ xs) (y ∷ ys) forth back px py =
      let e : x ≡ y = heads x y xs ys forth back px py in
      let rest : xs ≡ ys = one_sorted xs ys (behind x y xs ys e px forth) (behind y x ys xs (sym e) py back) (rest_pairs x xs px) (rest_pairs y ys py) in
      λ i. e i ∷ rest i

pub one_rising : (xs ys : List ℕ) → ((n : ℕ) → Has xs n → Has ys n) → ((n : ℕ) → Has ys n → Has xs n) → Rise xs → Rise ys → xs ≡ ys
one_rising xs ys forth back px py = one_sorted (λ k n. k < n) (λ a b x y. omega (arith, x, y)) xs ys forth back px py

-- ---- what stands at a place of a list of slots that are filled

pub all_at : {A : Type 0} (P : A → Type 0) (ns : List A) (i : ℕ) (n : A) → AllByRecursion P ns → slice_get ns i ≡ Some n → P n
all_at P [] i n all at = absurd (none-some n at)
all_at P (k ∷ ns) zero n all at = subst P (same_Some k n at) all.0
all_at P (k ∷ ns) (suc i) n all at = all_at P ns i n all.1 at

pub all_from : {A : Type 0} (P : A → Type 0) (ns : List A) → ((i : ℕ) (n : A) → slice_get ns i ≡ Some n → P n) → AllByRecursion P ns
all_from P [] h = tt
all_from P (n ∷ ns) h = (h zero n refl, all_from P ns (λ i k at. h (suc i) k at))

there : {A : Type 0} (o : Option A) → IsSome o → (x : A) × (o ≡ Some x)
there None h = absurd cc
there (Some x) h = (x, refl)

pub filled_at : {A : Type 0} (ns : List ℕ) (xs : List (Option A)) (i n : ℕ) → AreFilled ns xs → slice_get ns i ≡ Some n → (x : A) × (slice_index_or xs n None ≡ Some x)
filled_at ns xs i n filled at = there (slice_index_or xs n None) (all_at (λ n. IsSome (slice_index_or xs n None)) ns i n filled at)

-- ---- truth values

pub bool_same : (b c : Bool) → (b ≡ true → c ≡ true) → (c ≡ true → b ≡ true) → b ≡ c
bool_same true c forth back = sym (forth refl)
bool_same false true forth back = back refl
bool_same false false forth back = refl
