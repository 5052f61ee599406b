-- Lists that are related place by place.
use Rattle.std.proofs.Common.{ℕ, zero, suc, ◌≡◌, List, [], ◌∷◌, ◌++◌, length, map, flat_map, Option, Some, None, slice_get, slice_index_or, refl, ap}
use Rattle.std.specs.List.{AllZip}

-- both are there and related, or neither is
abbrev pub OptionZip : {A B : Type 0} → (A → B → Type 0) → Option A → Option B → Type 0
OptionZip R (Some x) (Some y) = R x y
OptionZip R (Some x) None = ⊥
OptionZip R None (Some y) = ⊥
OptionZip R None None = Unit {0}

pub zip_some : {A B : Type 0} (R : A → B → Type 0) (x : A) (o : Option B) → OptionZip R (Some x) o → (y : B) × (o ≡ Some y) × R x y
zip_some R x (Some y) z = (y, refl, z)
zip_some R x None z = absurd z

module _ {A B : Type 0} (R : A → B → Type 0) where
  pub zip_at : (xs : List A) (ys : List B) → AllZip R xs ys → (k : ℕ) → OptionZip R (slice_get xs k) (slice_get ys k)
  zip_at [] [] z k = tt
  zip_at [] (y ∷ ys) z k = absurd z
  zip_at (x ∷ xs) [] z k = absurd z
  zip_at (x ∷ xs) (y ∷ ys) z zero = z.0
  zip_at (x ∷ xs) (y ∷ ys) z (suc k) = zip_at xs ys z.1 k

  pub zip_length : (xs : List A) (ys : List B) → AllZip R xs ys → length ys ≡ length xs
  zip_length [] [] z = refl
  zip_length [] (y ∷ ys) z = absurd z
  zip_length (x ∷ xs) [] z = absurd z
  zip_length (x ∷ xs) (y ∷ ys) z = ap suc (zip_length xs ys z.1)

  pub zip_append : (xs : List A) (ys : List B) (us : List A) (vs : List B) → AllZip R xs ys → AllZip R us vs → AllZip R (xs ++ us) (ys ++ vs)
  zip_append [] [] us vs z w = w
  zip_append [] (y ∷ ys) us vs z w = absurd z
  zip_append (x ∷ xs) [] us vs z w = absurd z
  zip_append (x ∷ xs) (y ∷ ys) us vs z w = (z.0, zip_append xs ys us vs z.1 w)

  pub zip_map : {C D : Type 0} (S : C → D → Type 0) (f : A → C) (g : B → D) → ((x : A) (y : B) → R x y → S (f x) (g y)) → (xs : List A) (ys : List B) → AllZip R xs ys → AllZip S (map f xs) (map g ys)
  zip_map S f g each [] [] z = tt
  zip_map S f g each [] (y ∷ ys) z = absurd z
  zip_map S f g each (x ∷ xs) [] z = absurd z
  zip_map S f g each (x ∷ xs) (y ∷ ys) z = (each x y z.0, zip_map S f g each xs ys z.1)

  pub zip_flat : {C : Type 0} (f : A → List C) (g : B → List C) → ((x : A) (y : B) → R x y → g y ≡ f x) → (xs : List A) (ys : List B) → AllZip R xs ys → flat_map g ys ≡ flat_map f xs
  zip_flat f g each [] [] z = refl
  zip_flat f g each [] (y ∷ ys) z = absurd z
  zip_flat f g each (x ∷ xs) [] z = absurd z
  zip_flat f g each (x ∷ xs) (y ∷ ys) z = λ i. each x y z.0 i ++ zip_flat f g each xs ys z.1 i

-- what stands in the slots of an id
pub zip_slots : {A B : Type 0} (R : A → B → Type 0) (xs : List (Option A)) (ys : List (Option B)) → AllZip (OptionZip R) xs ys → (k : ℕ) → OptionZip R (slice_index_or xs k None) (slice_index_or ys k None)
zip_slots R [] [] z k = tt
zip_slots R [] (y ∷ ys) z k = absurd z
zip_slots R (x ∷ xs) [] z k = absurd z
zip_slots R (x ∷ xs) (y ∷ ys) z zero = z.0
zip_slots R (x ∷ xs) (y ∷ ys) z (suc k) = zip_slots R xs ys z.1 k

pub zip_same : {A : Type 0} (R : A → A → Type 0) → ((x : A) → R x x) → (xs : List A) → AllZip R xs xs
zip_same R each [] = tt
zip_same R each (x ∷ xs) = (each x, zip_same R each xs)
