-- Lemmas: numbers of filled slots, each once, are at most as many as these.
use Rattle.std.specs.Prelude.{ℕ, zero, suc, ◌≡◌, ◌≤◌, ◌<◌, ◌⊎◌, List, [], ◌∷◌, ◌++◌, length, Option, Some, None, IsSome, slice_get, slice_index_or, refl}
use Rattle.std.specs.List.{AllByRecursion, cons_option, filter_map}
use Rattle.std.proofs.Common.{ap, ◌∙◌, subst, arith, inl, inr}
use Rattle.std.proofs.lemmas.Option.{none-some, same_Some}
use Rattle.wasm_part.specs.Kept.{AreFilled}
use Rattle.walrus_emit_due.specs.Own.{live}

-- ---- lists without repetitions

-- somewhere in the list
abbrev pub In : List ℕ → ℕ → Type 0
In xs x = (i : ℕ) × (slice_get xs i ≡ Some x)

-- none of them stands there twice
abbrev pub Apart : List ℕ → Type 0
Apart [] = Unit {0}
Apart (n ∷ ns) = (In ns n → ⊥) × Apart ns

-- so it is where each stands in a turn with those behind it in which nothing stands with itself
pub turned_apart : (R : ℕ → ℕ → Type 0) → ((n : ℕ) → R n n → ⊥) → (ns : List ℕ) → ((i j k n : ℕ) → i < j → slice_get ns i ≡ Some k → slice_get ns j ≡ Some n → R k n) → Apart ns
turned_apart R never [] h = tt
turned_apart R never (n ∷ ns) h = (
  λ at. never n (h 0 (suc at.0) n n (omega arith) refl at.1),
  turned_apart R never ns (λ i j k m lt e f. h (suc i) (suc j) k m (omega (arith, lt)) e f),
)

in_later : (y x : ℕ) (xs : List ℕ) → In xs x → In (y ∷ xs) x
in_later y x xs h = (suc h.0, h.1)

in_either : (xs ys : List ℕ) (x : ℕ) → In (xs ++ ys) x → In xs x ⊎ In ys x
in_either [] ys x h = inr h
in_either (y ∷ xs) ys x (zero, e) = inl (zero, e)
in_either (y ∷ xs) ys x (suc i, e) = go (in_either xs ys x (i, e))
  where
    go : In xs x ⊎ In ys x → In (y ∷ xs) x ⊎ In ys x
    go (inl at) = inl (suc at.0, at.1)
    go (inr at) = inr at

pub apart_join : (xs ys : List ℕ) → Apart xs → Apart ys → ((n : ℕ) → In xs n → In ys n → ⊥) → Apart (xs ++ ys)
apart_join [] ys h k other = k
apart_join (x ∷ xs) ys h k other = (not_there, apart_join xs ys h.1 k (λ n at to. other n (suc at.0, at.1) to))
  where
    not_there : In (xs ++ ys) x → ⊥
    not_there at = go (in_either xs ys x at)
      where
        go : In xs x ⊎ In ys x → ⊥
        go (inl at) = h.0 at
        go (inr at) = other x (zero, refl) at

given_one : (F : ℕ → Option ℕ) (k n : ℕ) (ks : List ℕ) (o : Option ℕ) → F k ≡ o → (In (filter_map F ks) n → (j : ℕ) × In ks j × (F j ≡ Some n)) → In (cons_option o (filter_map F ks)) n
    → (j : ℕ) × In (k ∷ ks) j × (F j ≡ Some n)
given_one F k n ks None is rest at = let h = rest at in (h.0, in_later k h.0 ks h.1, h.2)
given_one F k n ks (Some m) is rest (zero, e) = (k, (zero, refl), is ∙ e)
given_one F k n ks (Some m) is rest (suc i, e) = let h = rest (i, e) in (h.0, in_later k h.0 ks h.1, h.2)

pub given_in : (F : ℕ → Option ℕ) (ks : List ℕ) (n : ℕ) → In (filter_map F ks) n → (k : ℕ) × In ks k × (F k ≡ Some n)
given_in F [] n (i, e) = absurd (none-some n e)
given_in F (k ∷ ks) n at = given_one F k n ks (F k) refl (λ at. given_in F ks n at) at

apart_one : (F : ℕ → Option ℕ) (k : ℕ) (ks : List ℕ) → (In ks k → ⊥) → ((i j n : ℕ) → F i ≡ Some n → F j ≡ Some n → i ≡ j) → Apart (filter_map F ks) → (o : Option ℕ) → F k ≡ o → Apart (cons_option o (filter_map F ks))
apart_one F k ks first one rest None is = rest
apart_one F k ks first one rest (Some n) is = (λ at. let h = given_in F ks n at in first (subst (λ (j : ℕ). In ks j) (one h.0 k n h.2 is) h.1), rest)

-- what different ones give is different
pub apart_given : (F : ℕ → Option ℕ) (ks : List ℕ) → Apart ks → ((i j n : ℕ) → F i ≡ Some n → F j ≡ Some n → i ≡ j) → Apart (filter_map F ks)
apart_given F [] h one = tt
apart_given F (k ∷ ks) h one = apart_one F k ks h.0 one (apart_given F ks h.1 one) (F k) refl

pub all_get : (P : ℕ → Type 0) (ns : List ℕ) → AllByRecursion P ns → (n : ℕ) → In ns n → P n
all_get P [] h n (i, e) = absurd (none-some n e)
all_get P (m ∷ ns) h n (zero, e) = subst P (same_Some m n e) h.0
all_get P (m ∷ ns) h n (suc i, e) = all_get P ns h.1 n (i, e)

-- ---- filled slots

module _ {A : Type 0} where
  abbrev without : ℕ → List (Option A) → List (Option A)
  without n [] = []
  without zero (x ∷ xs) = None ∷ xs
  without (suc n) (x ∷ xs) = x ∷ without n xs

  one_less : (n : ℕ) (xs : List (Option A)) → IsSome (slice_index_or xs n None) → length (live xs) ≡ suc (length (live (without n xs)))
  one_less n [] s = absurd cc
  one_less zero (None ∷ xs) s = absurd cc
  one_less zero (Some x ∷ xs) s = refl
  one_less (suc n) (None ∷ xs) s = one_less n xs s
  one_less (suc n) (Some x ∷ xs) s = ap (λ (k : ℕ). suc k) (one_less n xs s)

  other_stays : (n m : ℕ) (xs : List (Option A)) → (m ≡ n → ⊥) → IsSome (slice_index_or xs m None) → IsSome (slice_index_or (without n xs) m None)
  other_stays n m [] differs s = s
  other_stays zero zero (x ∷ xs) differs s = absurd (differs refl)
  other_stays zero (suc m) (x ∷ xs) differs s = s
  other_stays (suc n) zero (x ∷ xs) differs s = s
  other_stays (suc n) (suc m) (x ∷ xs) differs s = other_stays n m xs (λ e. differs (ap (λ (k : ℕ). suc k) e)) s

  others_stay : (n : ℕ) (ns : List ℕ) (xs : List (Option A)) → (In ns n → ⊥) → AreFilled ns xs → AreFilled ns (without n xs)
  others_stay n [] xs fresh h = tt
  others_stay n (m ∷ ns) xs fresh h = (
    other_stays n m xs (λ same. fresh (zero, ap (λ (k : ℕ). Some k) same)) h.0,
    others_stay n ns xs (λ at. fresh (suc at.0, at.1)) h.1,
  )

  pub few : (ns : List ℕ) (xs : List (Option A)) → Apart ns → AreFilled ns xs → length ns ≤ length (live xs)
  few [] xs apart h = omega arith
  few (n ∷ ns) xs apart h =
      let rest = few ns (without n xs) apart.1 (others_stay n ns xs apart.0 h.1) in
      let less = one_less n xs h.0 in
      omega (arith, rest, less)
