-- Lists as sets.
use Rattle.std.proofs.Common.{◌≡◌, ◌∙◌, ◌⊎◌, ◌↔◌, ◌<◌, ℕ, zero, suc, Bool, true, false, List, [], ◌∷◌, ◌++◌, map, reverse, length, Contains, refl, sym, ap, subst, inl, inr, arith, append_assoc, if◌then◌else◌}
use mathlib.Core.List.{reverse_aux}
use Rattle.std.specs.Prelude.{get_or}
use Rattle.std.specs.List.{flat_map}
use Rattle.walrus_pass_laws.specs.Instrs.{HaveSame}

-- the element stands in the list
abbrev pub In : {A : Type 0} → List A → A → Type 0
In [] y = ⊥
In (x ∷ xs) y = (x ≡ y) ⊎ In xs y

in_at : {A : Type 0} (xs : List A) (y : A) (k : ℕ) → k < length xs → get_or xs k y ≡ y → In xs y
in_at [] y k below e = absurd (omega (arith, below))
in_at (x ∷ xs) y zero below e = inl e
in_at (x ∷ xs) y (suc k) below e = inr (in_at xs y k (omega (arith, below)) e)

pub in_of : {A : Type 0} (xs : List A) (y : A) → Contains xs y → In xs y
in_of xs y c = in_at xs y c.0 c.1 c.2

pub contains_of : {A : Type 0} (xs : List A) (y : A) → In xs y → Contains xs y
contains_of [] y h = absurd h
contains_of (x ∷ xs) y (inl e) = (0, omega arith, e)
contains_of (x ∷ xs) y (inr h) = (let c = contains_of xs y h in (suc c.0, omega (arith, c.1), c.2))

pub in_left : {A : Type 0} (xs ys : List A) (y : A) → In xs y → In (xs ++ ys) y
in_left [] ys y h = absurd h
in_left (x ∷ xs) ys y (inl e) = inl e
in_left (x ∷ xs) ys y (inr h) = inr (in_left xs ys y h)

pub in_right : {A : Type 0} (xs ys : List A) (y : A) → In ys y → In (xs ++ ys) y
in_right [] ys y h = h
in_right (x ∷ xs) ys y h = inr (in_right xs ys y h)

pub in_cases : {A : Type 0} (xs ys : List A) (y : A) → In (xs ++ ys) y → In xs y ⊎ In ys y
in_cases [] ys y h = inr h
in_cases (x ∷ xs) ys y (inl e) = inl (inl e)
in_cases (x ∷ xs) ys y (inr h) = elim (in_cases xs ys y h) as (λ _. In (x ∷ xs) y ⊎ In ys y) [ inl l ↦ inl (inr l) | inr r ↦ inr r ]

-- ---- images

pub in_map : {A B : Type 0} (f : A → B) (xs : List A) (y : B) → In (map f xs) y → (x : A) × In xs x × (f x ≡ y)
in_map f [] y h = absurd h
in_map f (x ∷ xs) y (inl e) = (x, inl refl, e)
in_map f (x ∷ xs) y (inr h) = (let r = in_map f xs y h in (r.0, inr r.1, r.2))

pub map_in : {A B : Type 0} (f : A → B) (xs : List A) (x : A) → In xs x → In (map f xs) (f x)
map_in f [] x h = absurd h
map_in f (z ∷ xs) x (inl e) = inl (ap f e)
map_in f (z ∷ xs) x (inr h) = inr (map_in f xs x h)

pub in_flat : {A B : Type 0} (f : A → List B) (xs : List A) (y : B) → In (flat_map f xs) y → (x : A) × In xs x × In (f x) y
in_flat f [] y h = absurd h
in_flat {A} f (x ∷ xs) y h = elim (in_cases (f x) (flat_map f xs) y h) as (λ _. (z : A) × In (x ∷ xs) z × In (f z) y) [
  | inl l ↦ (x, inl refl, l)
  | inr r ↦ (let t = in_flat f xs y r in (t.0, inr t.1, t.2))
]

pub flat_in : {A B : Type 0} (f : A → List B) (xs : List A) (x : A) (y : B) → In xs x → In (f x) y → In (flat_map f xs) y
flat_in f [] x y h c = absurd h
flat_in f (z ∷ xs) x y (inl e) c = in_left (f z) (flat_map f xs) y (subst (λ w. In (f w) y) (sym e) c)
flat_in f (z ∷ xs) x y (inr h) c = in_right (f z) (flat_map f xs) y (flat_in f xs x y h c)

pub flat_append : {A B : Type 0} (f : A → List B) (xs ys : List A) → flat_map f (xs ++ ys) ≡ flat_map f xs ++ flat_map f ys
flat_append f [] ys = refl
flat_append {B} f (x ∷ xs) ys = ap (λ (l : List B). f x ++ l) (flat_append f xs ys) ∙ sym (append_assoc (f x) (flat_map f xs) (flat_map f ys))

pub flat_of_map : {A B C : Type 0} (f : B → List C) (h : A → B) (xs : List A) → flat_map f (map h xs) ≡ flat_map (λ x. f (h x)) xs
flat_of_map f h [] = refl
flat_of_map {C} f h (x ∷ xs) = ap (λ (l : List C). f (h x) ++ l) (flat_of_map f h xs)

pub flat_of_flat : {A B C : Type 0} (f : B → List C) (h : A → List B) (xs : List A) → flat_map f (flat_map h xs) ≡ flat_map (λ x. flat_map f (h x)) xs
flat_of_flat f h [] = refl
flat_of_flat {C} f h (x ∷ xs) = flat_append f (h x) (flat_map h xs) ∙ ap (λ (l : List C). flat_map f (h x) ++ l) (flat_of_flat f h xs)

pub flat_same : {A B : Type 0} (f h : A → List B) → ((x : A) → f x ≡ h x) → (xs : List A) → flat_map f xs ≡ flat_map h xs
flat_same f h same [] = refl
flat_same {B} f h same (x ∷ xs) = ap (λ (l : List B). l ++ flat_map f xs) (same x) ∙ ap (λ (l : List B). h x ++ l) (flat_same f h same xs)

pub map_append : {A B : Type 0} (f : A → B) (xs ys : List A) → map f (xs ++ ys) ≡ map f xs ++ map f ys
map_append f [] ys = refl
map_append {B} f (x ∷ xs) ys = ap (λ (l : List B). f x ∷ l) (map_append f xs ys)

-- ---- the same elements

abbrev pub Same : {A : Type 0} → List A → List A → Type 0
Same {A} xs ys = (y : A) → In xs y ↔ In ys y

pub same_refl : {A : Type 0} (xs : List A) → Same xs xs
same_refl xs y = (λ h. h, λ h. h)

pub same_sym : {A : Type 0} (xs ys : List A) → Same xs ys → Same ys xs
same_sym xs ys s y = ((s y).1, (s y).0)

pub same_trans : {A : Type 0} (xs ys zs : List A) → Same xs ys → Same ys zs → Same xs zs
same_trans xs ys zs s t y = (λ h. (t y).0 ((s y).0 h), λ h. (s y).1 ((t y).1 h))

pub same_eq : {A : Type 0} (xs ys : List A) → xs ≡ ys → Same xs ys
same_eq xs ys e = subst (Same xs) e (same_refl xs)

pub same_cat : {A : Type 0} (a b c d : List A) → Same a b → Same c d → Same (a ++ c) (b ++ d)
same_cat a b c d s t y = (
  λ h. elim (in_cases a c y h) as (λ _. In (b ++ d) y) [ inl l ↦ in_left b d y ((s y).0 l) | inr r ↦ in_right b d y ((t y).0 r) ],
  λ h. elim (in_cases b d y h) as (λ _. In (a ++ c) y) [ inl l ↦ in_left a c y ((s y).1 l) | inr r ↦ in_right a c y ((t y).1 r) ],
)

swap_in : {A : Type 0} (a b : List A) (y : A) → In (a ++ b) y → In (b ++ a) y
swap_in a b y h = elim (in_cases a b y h) as (λ _. In (b ++ a) y) [ inl l ↦ in_right b a y l | inr r ↦ in_left b a y r ]

pub same_swap : {A : Type 0} (a b : List A) → Same (a ++ b) (b ++ a)
same_swap a b y = (swap_in a b y, swap_in b a y)

-- where one pair of lists is the same as another, a third may stand between
pub same_between : {A : Type 0} (a p b n i : List A) → Same (a ++ p) (b ++ n) → Same (a ++ (i ++ p)) (n ++ (b ++ i))
same_between a p b n i s y = (
  λ h. elim (in_cases a (i ++ p) y h) as (λ _. In (n ++ (b ++ i)) y) [
    | inl l ↦ put (in_cases b n y ((s y).0 (in_left a p y l)))
    | inr r ↦ elim (in_cases i p y r) as (λ _. In (n ++ (b ++ i)) y) [
      | inl m ↦ in_right n (b ++ i) y (in_right b i y m)
      | inr q ↦ put (in_cases b n y ((s y).0 (in_right a p y q)))
    ]
  ],
  λ h. elim (in_cases n (b ++ i) y h) as (λ _. In (a ++ (i ++ p)) y) [
    | inl l ↦ back (in_cases a p y ((s y).1 (in_right b n y l)))
    | inr r ↦ elim (in_cases b i y r) as (λ _. In (a ++ (i ++ p)) y) [
      | inl m ↦ back (in_cases a p y ((s y).1 (in_left b n y m)))
      | inr q ↦ in_right a (i ++ p) y (in_left i p y q)
    ]
  ],
)
  where
    put : In b y ⊎ In n y → In (n ++ (b ++ i)) y
    put (inl l) = in_right n (b ++ i) y (in_left b i y l)
    put (inr r) = in_left n (b ++ i) y r

    back : In a y ⊎ In p y → In (a ++ (i ++ p)) y
    back (inl l) = in_left a (i ++ p) y l
    back (inr r) = in_right a (i ++ p) y (in_right i p y r)

-- two pairs, taken the other way
crossed : {A : Type 0} (a p c q : List A) (y : A) → In ((a ++ p) ++ (c ++ q)) y → In ((a ++ c) ++ (p ++ q)) y
crossed a p c q y h = elim (in_cases (a ++ p) (c ++ q) y h) as (λ _. In ((a ++ c) ++ (p ++ q)) y) [
  | inl l ↦ elim (in_cases a p y l) as (λ _. In ((a ++ c) ++ (p ++ q)) y) [
    | inl m ↦ in_left (a ++ c) (p ++ q) y (in_left a c y m)
    | inr m ↦ in_right (a ++ c) (p ++ q) y (in_left p q y m)
  ]
  | inr r ↦ elim (in_cases c q y r) as (λ _. In ((a ++ c) ++ (p ++ q)) y) [
    | inl m ↦ in_left (a ++ c) (p ++ q) y (in_right a c y m)
    | inr m ↦ in_right (a ++ c) (p ++ q) y (in_right p q y m)
  ]
]

pub same_cross : {A : Type 0} (a p c q : List A) → Same ((a ++ p) ++ (c ++ q)) ((a ++ c) ++ (p ++ q))
same_cross a p c q y = (crossed a p c q y, crossed a c p q y)

pub same_flat : {A B : Type 0} (f : A → List B) (xs ys : List A) → Same xs ys → Same (flat_map f xs) (flat_map f ys)
same_flat f xs ys s y = (
  λ h. (let t = in_flat f xs y h in flat_in f ys t.0 y ((s t.0).0 t.1) t.2),
  λ h. (let t = in_flat f ys y h in flat_in f xs t.0 y ((s t.0).1 t.1) t.2),
)

pub same_map : {A B : Type 0} (f : A → B) (xs ys : List A) → Same xs ys → Same (map f xs) (map f ys)
same_map f xs ys s y = (
  λ h. (let t = in_map f xs y h in subst (In (map f ys)) t.2 (map_in f ys t.0 ((s t.0).0 t.1))),
  λ h. (let t = in_map f ys y h in subst (In (map f xs)) t.2 (map_in f xs t.0 ((s t.0).1 t.1))),
)

-- what each gives of two kinds is what all give of the one, and of the other
pub flat_both : {A B : Type 0} (f h : A → List B) (xs : List A) → Same (flat_map (λ x. f x ++ h x) xs) (flat_map f xs ++ flat_map h xs)
flat_both f h xs y = (
  λ d. (let t = in_flat (λ x. f x ++ h x) xs y d in elim (in_cases (f t.0) (h t.0) y t.2) as (λ _. In (flat_map f xs ++ flat_map h xs) y) [
    | inl l ↦ in_left (flat_map f xs) (flat_map h xs) y (flat_in f xs t.0 y t.1 l)
    | inr r ↦ in_right (flat_map f xs) (flat_map h xs) y (flat_in h xs t.0 y t.1 r)
  ]),
  λ d. elim (in_cases (flat_map f xs) (flat_map h xs) y d) as (λ _. In (flat_map (λ x. f x ++ h x) xs) y) [
    | inl l ↦ (let t = in_flat f xs y l in flat_in (λ x. f x ++ h x) xs t.0 y t.1 (in_left (f t.0) (h t.0) y t.2))
    | inr r ↦ (let t = in_flat h xs y r in flat_in (λ x. f x ++ h x) xs t.0 y t.1 (in_right (f t.0) (h t.0) y t.2))
  ],
)

-- ---- the reverse

onto_forth : {A : Type 0} (xs ys : List A) (y : A) → In (reverse_aux xs ys) y → In xs y ⊎ In ys y
onto_forth [] ys y h = inr h
onto_forth (x ∷ xs) ys y h = elim (onto_forth xs (x ∷ ys) y h) as (λ _. In (x ∷ xs) y ⊎ In ys y) [
  | inl l ↦ inl (inr l)
  | inr r ↦ elim r as (λ _. In (x ∷ xs) y ⊎ In ys y) [ inl e ↦ inl (inl e) | inr d ↦ inr d ]
]

onto_back : {A : Type 0} (xs ys : List A) (y : A) → In xs y ⊎ In ys y → In (reverse_aux xs ys) y
onto_back [] ys y (inl l) = absurd l
onto_back [] ys y (inr r) = r
onto_back (x ∷ xs) ys y (inl l) = onto_back xs (x ∷ ys) y (elim l as (λ _. In xs y ⊎ In (x ∷ ys) y) [ inl e ↦ inr (inl e) | inr d ↦ inl d ])
onto_back (x ∷ xs) ys y (inr r) = onto_back xs (x ∷ ys) y (inr (inr r))

pub same_reverse : {A : Type 0} (xs : List A) → Same (reverse xs) xs
same_reverse xs y = (λ h. elim (onto_forth xs [] y h) as (λ _. In xs y) [ inl l ↦ l | inr r ↦ absurd r ], λ h. onto_back xs [] y (inl h))

-- a list that is another, or the reverse of it
pub same_turned : {A : Type 0} (turns : Bool) (xs ys : List A) → xs ≡ (if turns then reverse ys else ys) → Same xs ys
same_turned true xs ys e = same_trans xs (reverse ys) ys (same_eq xs (reverse ys) e) (same_reverse ys)
same_turned false xs ys e = same_eq xs ys e

-- ---- by places

pub have_same : {A : Type 0} (xs ys : List A) → Same xs ys → HaveSame xs ys
have_same xs ys s y = (λ c. contains_of ys y ((s y).0 (in_of xs y c)), λ c. contains_of xs y ((s y).1 (in_of ys y c)))

pub same_of : {A : Type 0} (xs ys : List A) → HaveSame xs ys → Same xs ys
same_of xs ys s y = (λ h. in_of ys y ((s y).0 (contains_of xs y h)), λ h. in_of xs y ((s y).1 (contains_of ys y h)))
