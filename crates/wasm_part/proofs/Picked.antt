-- Lemmas: slots that were picked by their numbers.
use Rattle.std.specs.Prelude.{ℕ, zero, suc, ◌≡◌, ◌<◌, List, [], ◌∷◌, ◌++◌, length, Option, Some, None, slice_get, slice_index_or, refl}
use Rattle.std.specs.List.{AllByRecursion}
use Rattle.std.specs.Option.{option_map}
use Rattle.std.proofs.Common.{ap}
use Rattle.std.proofs.lemmas.Option.{slice_get_within}
use Rattle.wasm_module_rules.specs.Linked.{Each}
use Rattle.wasm_part.specs.Part.{picked}

-- ---- places in lists

pub some_same : {A : Type 0} (x y : A) → (let some : A → Option A = λ x. Some x in some x ≡ some y) → x ≡ y
some_same x y e = cc

-- the slot of a number is what stands there
pub slot_of : {A : Type 0} (xs : List (Option A)) (n : ℕ) (x : A) → slice_index_or xs n None ≡ Some x → slice_get xs n ≡ Some (Some x)
slot_of [] n x e = absurd cc
slot_of (y ∷ xs) zero x e = ap (λ (o : Option _). Some o) e
slot_of (y ∷ xs) (suc n) x e = slot_of xs n x e

pub slot_there : {A : Type 0} (xs : List (Option A)) (n : ℕ) (x : A) → slice_index_or xs n None ≡ Some x → n < length xs
slot_there xs n x e = slice_get_within xs n (Some x) (slot_of xs n x e)

pub each_at : {A : Type 0} (P : A → Type 0) (xs : List (Option A)) (n : ℕ) (x : A) → Each P xs → slice_index_or xs n None ≡ Some x → P x
each_at P [] n x h e = absurd cc
each_at P (None ∷ xs) zero x h e = absurd cc
each_at P (None ∷ xs) (suc n) x h e = each_at P xs n x h e
each_at P (Some y ∷ xs) zero x h e = subst_some P y x h.0 e
  where
    subst_some : {A : Type 0} (P : A → Type 0) (y x : A) → P y → (let some : A → Option A = λ x. Some x in some y ≡ some x) → P x
    subst_some P y x p e = rw (← some_same y x e) p
each_at P (Some y ∷ xs) (suc n) x h e = each_at P xs n x h.1 e

-- ---- what holds of each that is picked

pub each_picked : {A : Type 0} (Q : A → Type 0) (f : A → A) (xs : List (Option A)) (ns : List ℕ)
    → ((i n : ℕ) → slice_get ns i ≡ Some n → (x : A) → slice_index_or xs n None ≡ Some x → Q (f x)) → Each Q (picked f ns xs)
each_picked Q f xs [] h = tt
each_picked {A} Q f xs (n ∷ ns) h = go (slice_index_or xs n None) (λ x e. h zero n refl x e) (each_picked Q f xs ns (λ i k e x at. h (suc i) k e x at))
  where
    go : (o : Option A) → ((x : A) → o ≡ Some x → Q (f x)) → Each Q (picked f ns xs) → Each Q (option_map f o ∷ picked f ns xs)
    go None one rest = rest
    go (Some x) one rest = (one x refl, rest)

pub each_joined : {A : Type 0} (P : A → Type 0) (xs ys : List (Option A)) → Each P xs → Each P ys → Each P (xs ++ ys)
each_joined P [] ys h k = k
each_joined P (None ∷ xs) ys h k = each_joined P xs ys h k
each_joined P (Some x ∷ xs) ys h k = (h.0, each_joined P xs ys h.1 k)

-- at the place of a number stands its slot
pub picked_at : {A : Type 0} (f : A → A) (xs : List (Option A)) (ns : List ℕ) (i n : ℕ) → slice_get ns i ≡ Some n → slice_index_or (picked f ns xs) i None ≡ option_map f (slice_index_or xs n None)
picked_at f xs [] i n e = absurd cc
picked_at f xs (k ∷ ns) zero n e = ap (λ (k : ℕ). option_map f (slice_index_or xs k None)) (some_same k n e)
picked_at f xs (k ∷ ns) (suc i) n e = picked_at f xs ns i n e

pub all_at : {A : Type 0} (P : A → Type 0) (xs : List A) → AllByRecursion P xs → (i : ℕ) (x : A) → slice_get xs i ≡ Some x → P x
all_at P [] h i x e = absurd cc
all_at P (y ∷ xs) h zero x e = rw (← some_same y x e) h.0
all_at P (y ∷ xs) h (suc i) x e = all_at P xs h.1 i x e
