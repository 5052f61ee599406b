-- Lemmas: what holds of each item that events name.
use Rattle.std.proofs.Common.{ℕ, zero, suc, ◌≡◌, ◌<◌, List, [], ◌∷◌, ◌++◌, length, refl, subst, arith}
use Rattle.std.specs.Prelude.{Contains, slice_index_or}
use Rattle.std.specs.List.{AllByRecursion}
use Rattle.walrus_walks.specs.Events.{Event, events_of}
use Rattle.walrus_roots.specs.declared.item.Item.{Item}
use Rattle.walrus_marks.specs.Named.{event_items, items_of}
use Rattle.walrus_body_laws.specs.Answers.{AllAre}

pub all_join : {A : Type 0} (P : A → Type 0) (xs ys : List A) → AllByRecursion P xs → AllByRecursion P ys → AllByRecursion P (xs ++ ys)
all_join P [] ys h k = k
all_join P (x ∷ xs) ys h k = (h.0, all_join P xs ys h.1 k)

all_split : {A : Type 0} (P : A → Type 0) (xs ys : List A) → AllByRecursion P (xs ++ ys) → AllByRecursion P xs × AllByRecursion P ys
all_split P [] ys h = (tt, h)
all_split P (x ∷ xs) ys h = let later = all_split P xs ys h.1 in ((h.0, later.0), later.1)

pub all_later : {A : Type 0} (P Q : A → Type 0) → ((x : A) → P x → Q x) → (xs : List A) → AllByRecursion P xs → AllByRecursion Q xs
all_later P Q f [] h = tt
all_later P Q f (x ∷ xs) h = (f x h.0, all_later P Q f xs h.1)

holds_at : {A : Type 0} (P : A → Type 0) (xs : List A) (y : A) → AllByRecursion P xs → (k : ℕ) → k < length xs → slice_index_or xs k y ≡ y → P y
holds_at P [] y h k lt e = absurd (omega (arith, lt))
holds_at P (x ∷ xs) y h zero lt e = subst P e h.0
holds_at P (x ∷ xs) y h (suc k) lt e = holds_at P xs y h.1 k (omega (arith, lt)) e

each_of : {A : Type 0} (P : A → Type 0) (xs : List A) → ((y : A) → Contains xs y → P y) → AllByRecursion P xs
each_of P [] h = tt
each_of P (x ∷ xs) h = (h x (0, omega arith, refl), each_of P xs (λ y c. h y (suc c.0, (let lt = c.1 in omega (arith, lt)), c.2)))

module _ (Good : Item → Type 0) where
  -- it holds of what each of these events names
  abbrev pub Told : List Event → Type 0
  Told [] = Unit {0}
  Told (e ∷ es) = AllByRecursion Good (event_items e) × Told es

  pub told_join : (xs ys : List Event) → Told xs → Told ys → Told (xs ++ ys)
  told_join [] ys h k = k
  told_join (x ∷ xs) ys h k = (h.0, told_join xs ys h.1 k)

  told_items : (es : List Event) → Told es → AllByRecursion Good (items_of es)
  told_items [] h = tt
  told_items (e ∷ es) h = all_join Good (event_items e) (items_of es) h.0 (told_items es h.1)

  items_told : (es : List Event) → AllByRecursion Good (items_of es) → Told es
  items_told [] h = tt
  items_told (e ∷ es) h = let both = all_split Good (event_items e) (items_of es) h in (both.0, items_told es both.1)

  pub told_are : (es : List Event) → Told es → AllAre Good (items_of es)
  told_are es h y c = holds_at Good (items_of es) y (told_items es h) c.0 c.1 c.2

  pub are_told : (es : List Event) → AllAre Good (items_of es) → Told es
  are_told es h = items_told es (each_of Good (items_of es) h)

  pub told_each : {A : Type 0} (f : A → List Event) (xs : List A) → AllByRecursion (λ x. Told (f x)) xs → Told (events_of f xs)
  told_each f [] h = tt
  told_each f (x ∷ xs) h = told_join (f x) (events_of f xs) h.0 (told_each f xs h.1)
