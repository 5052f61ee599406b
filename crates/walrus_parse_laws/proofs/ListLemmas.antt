-- Lemmas: what holds of all that a list has.
use Rattle.std.specs.Prelude.{ℕ, zero, suc, ◌≡◌, ◌<◌, ◌≤◌, Bool, true, false, List, [], ◌∷◌, ◌++◌, length, filter, Contains, Some, slice_get, slice_index_or, refl}
use Rattle.std.proofs.Common.{sym, subst, arith}
use Rattle.std.proofs.lemmas.List.Concat.{flat_map-append}
use Rattle.walrus_marks.specs.Named.{event_items, items_of}
use Rattle.walrus_marks.specs.walrus_walks.Events.{Event}
use Rattle.walrus_named_bodies.specs.walrus_file_bodies.walrus_items_into.walrus_tables_into.walrus_sections.walrus_roots.declared.item.Item.{Item}

abbrev pub AllOf : {A : Type 0} → (A → Type 0) → List A → Type 0
AllOf P [] = Unit {0}
AllOf P (x ∷ xs) = P x × AllOf P xs

pub all_join : {A : Type 0} (P : A → Type 0) (xs ys : List A) → AllOf P xs → AllOf P ys → AllOf P (xs ++ ys)
all_join P [] ys h k = k
all_join P (x ∷ xs) ys h k = (h.0, all_join P xs ys h.1 k)

holds_at : {A : Type 0} (P : A → Type 0) (xs : List A) (y : A) → AllOf P xs → (k : ℕ) → k < length xs → slice_index_or xs k y ≡ y → P y
holds_at P [] y h k lt e = absurd (omega (arith, lt))
holds_at P (x ∷ xs) y h zero lt e = subst P e h.0
holds_at P (x ∷ xs) y h (suc k) lt e = holds_at P xs y h.1 k (omega (arith, lt)) e

pub all_contains : {A : Type 0} (P : A → Type 0) (xs : List A) (y : A) → AllOf P xs → Contains xs y → P y
all_contains P xs y h c = holds_at P xs y h c.0 c.1 c.2

pub all_at : {A : Type 0} (P : A → Type 0) (xs : List A) (n : ℕ) (x : A) → AllOf P xs → slice_get xs n ≡ Some x → P x
all_at P [] n x h e = absurd cc
all_at P (y ∷ xs) zero x h e = let same : y ≡ x = cc in subst P same h.0
all_at P (y ∷ xs) (suc n) x h e = all_at P xs n x h.1 e

pub get_some : {A : Type 0} (xs : List A) (n : ℕ) → n < length xs → (x : A) × (slice_get xs n ≡ Some x)
get_some [] n lt = absurd (omega (arith, lt))
get_some (x ∷ xs) zero lt = (x, refl)
get_some (x ∷ xs) (suc n) lt = get_some xs n (omega (arith, lt))

pub get_within : {A : Type 0} (xs : List A) (n : ℕ) (x : A) → slice_get xs n ≡ Some x → n < length xs
get_within [] n x e = absurd cc
get_within (y ∷ xs) zero x e = omega arith
get_within (y ∷ xs) (suc n) x e = let lt = get_within xs n x e in omega (arith, lt)

-- what two lists of events name
pub items_join : (P : Item → Type 0) (a b : List Event) → AllOf P (items_of a) → AllOf P (items_of b) → AllOf P (items_of (a ++ b))
items_join P a b h k = subst (AllOf P) (sym (flat_map-append event_items a b)) (all_join P (items_of a) (items_of b) h k)

pub filter_short : {A : Type 0} (p : A → Bool) (xs : List A) → length (filter p xs) ≤ length xs
filter_short p [] = omega arith
filter_short p (x ∷ xs) = go (p x) refl (filter_short p xs)
  where
    go : (b : Bool) → p x ≡ b → length (filter p xs) ≤ length xs → length (filter p (x ∷ xs)) ≤ length (x ∷ xs)
    go true e le = rw e (omega (arith, le))
    go false e le = rw e (omega (arith, le))

pub cons_head : {A : Type 0} (x y : A) (xs ys : List A) → x ∷ xs ≡ y ∷ ys → x ≡ y
cons_head x y xs ys e = cc

pub cons_tail : {A : Type 0} (x y : A) (xs ys : List A) → x ∷ xs ≡ y ∷ ys → xs ≡ ys
cons_tail x y xs ys e = cc

pub some_is : {A : Type 0} (x y : A) → Some x ≡ Some y → x ≡ y
some_is x y e = cc
