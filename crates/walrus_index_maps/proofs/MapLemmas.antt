-- Lists of numbers by id.
use Rattle.std.proofs.Common.{◌≡◌, ◌∙◌, ◌==◌, ◌&&◌, ◌<◌, ◌≤◌, ℕ, zero, suc, List, [], ◌∷◌, ◌++◌, length, take, get_or, set, replicate, Option, Some, None, if◌then◌else◌, refl, ap, sym, arith, inl, inr}
use Rattle.std.proofs.lemmas.Bool.{cases_Bool, cases_lt, eqb-true, eqb-false, ne_eqb, eq-eqb}
use Rattle.std.proofs.lemmas.List.{get_or-set_same, get_or-set_other, take_all}
use Rattle.std.specs.declared.cmp.Ordering.{Ordering}
use Rattle.std.specs.declared.cmp.Ordering.TheVariants.{Less, Equal, Greater}
use Rattle.std.specs.Ordering.{is_eq, nat_cmp, ordering_then}
use Rattle.std.specs.Cmp.{nat_cmp_is}
use Rattle.walrus_index_maps.specs.Maps.{Numbering, numbered, with_first, with_last, with_local, with_skipped}
use Rattle.walrus_index_maps.specs.Runs.{nowhere}
use Rattle.walrus_index_maps.specs.Views.{items_at, key_cmp}

no_numbers : {A : Type 0} (nothing : Option A) (n i : ℕ) → nothing ≡ None → get_or (replicate n nothing) i None ≡ None
no_numbers nothing zero i e = refl
no_numbers nothing (suc n) zero e = e
no_numbers nothing (suc n) (suc i) e = no_numbers nothing n i e

padded : {A : Type 0} (xs : List (Option A)) (n i : ℕ) → get_or (xs ++ replicate n None) i None ≡ get_or xs i None
padded [] n i = no_numbers None n i refl
padded (x ∷ xs) n zero = refl
padded (x ∷ xs) n (suc i) = padded xs n i

-- places without numbers say nothing
pub grown : {A : Type 0} (xs ys : List (Option A)) (n m i : ℕ) → length xs ≤ n → ys ≡ take n xs ++ replicate m None → get_or ys i None ≡ get_or xs i None
grown xs ys n m i l e = rw (e, take_all n xs l) (padded xs m i)

-- one id has another number
pub written : (xs : List (Option ℕ)) (at number i : ℕ) → at < length xs → get_or (set xs at (Some number)) i None ≡ (if i == at then Some number else get_or xs i None)
written xs at number i l = elim (cases_Bool (i == at)) [
  | inl same ↦ rw (same, eqb-true i at same) (get_or-set_same xs at (Some number) None l)
  | inr other ↦ rw other (get_or-set_other xs at i (Some number) None (eqb-false i at other))
]

abbrev numbering_of : (ℕ → Option ℕ) → ℕ → Numbering
numbering_of number given = record { number = number; given = given }

-- functions that agree everywhere are one
pub agree : {A : Type 0} (f g : ℕ → A) → ((n : ℕ) → f n ≡ g n) → f ≡ g
agree f g h = λ i n. h n i

pub same_numbering : (f g : ℕ → Option ℕ) (given : ℕ) → ((n : ℕ) → f n ≡ g n) → numbering_of f given ≡ numbering_of g given
same_numbering f g given h = ap (λ (k : ℕ → Option ℕ). numbering_of k given) (agree f g h)

pub set_is : (xs : List (Option ℕ)) (given at number : ℕ) → at < length xs
    → numbering_of (λ i. get_or (set xs at (Some number)) i None) given ≡ numbered at number (numbering_of (λ i. get_or xs i None) given)
set_is xs given at number l = same_numbering _ _ given (λ i. written xs at number i l)

-- ---- lists of functions

-- one more empty list says nothing
one_more : (vs : List (List ℕ)) (v : List ℕ) → v ≡ [] → (f : ℕ) → items_at (vs ++ v ∷ []) f ≡ items_at vs f
one_more [] v e zero = e
one_more [] v e (suc f) = refl
one_more (x ∷ vs) v e zero = refl
one_more (x ∷ vs) v e (suc f) = one_more vs v e f

pub one_more_list : (vs : List (List ℕ)) (v : List ℕ) → v ≡ [] → items_at (vs ++ v ∷ []) ≡ items_at vs
one_more_list vs v e = agree _ _ (one_more vs v e)

pub list_at : (vs : List (List ℕ)) (f : ℕ) (v : List ℕ) → f < length vs → get_or vs f v ≡ v → items_at vs f ≡ v
list_at [] f v l e = absurd (omega (arith, l))
list_at (x ∷ vs) zero v l e = e
list_at (x ∷ vs) (suc f) v l e = list_at vs f v (omega (arith, l)) e

pub no_list : (vs : List (List ℕ)) (f : ℕ) → length vs ≤ f → items_at vs f ≡ []
no_list [] f l = refl
no_list (x ∷ vs) zero l = absurd (omega (arith, l))
no_list (x ∷ vs) (suc f) l = no_list vs f (omega (arith, l))

-- one list was written
here : (vs : List (List ℕ)) (at : ℕ) (v : List ℕ) → at < length vs → items_at (set vs at v) at ≡ v
here [] at v l = absurd (omega (arith, l))
here (x ∷ vs) zero v l = refl
here (x ∷ vs) (suc at) v l = here vs at v (omega (arith, l))

elsewhere : (vs : List (List ℕ)) (at : ℕ) (v : List ℕ) (f : ℕ) → (f ≡ at → ⊥) → items_at (set vs at v) f ≡ items_at vs f
elsewhere [] at v f n = refl
elsewhere (x ∷ vs) zero v zero n = absurd (n refl)
elsewhere (x ∷ vs) zero v (suc f) n = refl
elsewhere (x ∷ vs) (suc at) v zero n = refl
elsewhere (x ∷ vs) (suc at) v (suc f) n = elsewhere vs at v f (λ e. n (ap suc e))

pub written_list : (vs : List (List ℕ)) (at id : ℕ) (v : List ℕ) → at < length vs → v ≡ items_at vs at ++ id ∷ []
    → items_at (set vs at v) ≡ with_last at id (items_at vs)
written_list vs at id v l e = agree _ _ (λ f. each f)
  where
    each : (f : ℕ) → items_at (set vs at v) f ≡ with_last at id (items_at vs) f
    each f = elim (cases_Bool (f == at)) [
      | inl same ↦ rw (same, eqb-true f at same) (here vs at v l ∙ e)
      | inr other ↦ rw other (elsewhere vs at v f (eqb-false f at other))
    ]

pub skipped_list : (vs : List (List ℕ)) (at n : ℕ) (v : List ℕ) → at < length vs → v ≡ items_at vs at ++ replicate n nowhere
    → items_at (set vs at v) ≡ with_skipped at n (items_at vs)
skipped_list vs at n v l e = agree _ _ (λ f. each f)
  where
    each : (f : ℕ) → items_at (set vs at v) f ≡ with_skipped at n (items_at vs) f
    each f = elim (cases_Bool (f == at)) [
      | inl same ↦ rw (same, eqb-true f at same) (here vs at v l ∙ e)
      | inr other ↦ rw other (elsewhere vs at v f (eqb-false f at other))
    ]

pub same_list : (vs : List (List ℕ)) (at : ℕ) (v : List ℕ) → at < length vs → v ≡ items_at vs at → items_at (set vs at v) ≡ items_at vs
same_list vs at v l e = agree _ _ (λ f. each f)
  where
    each : (f : ℕ) → items_at (set vs at v) f ≡ items_at vs f
    each f = elim (cases_Bool (f == at)) [
      | inl same ↦ rw (eqb-true f at same) (here vs at v l ∙ e)
      | inr other ↦ elsewhere vs at v f (eqb-false f at other)
    ]

-- one list was cut back
pub cut_list : (vs : List (List ℕ)) (at n : ℕ) (v : List ℕ) → at < length vs → v ≡ take n (items_at vs at) → items_at (set vs at v) ≡ with_first at n (items_at vs)
cut_list vs at n v l e = agree _ _ (λ f. each f)
  where
    each : (f : ℕ) → items_at (set vs at v) f ≡ with_first at n (items_at vs) f
    each f = elim (cases_Bool (f == at)) [
      | inl same ↦ rw (same, eqb-true f at same) (here vs at v l ∙ e)
      | inr other ↦ rw other (elsewhere vs at v f (eqb-false f at other))
    ]

-- where there is no list, nothing is cut
pub no_cut : (vs : List (List ℕ)) (at n : ℕ) → length vs ≤ at → items_at vs ≡ with_first at n (items_at vs)
no_cut vs at n l = agree _ _ (λ f. each f)
  where
    nothing : (k : ℕ) (l : List ℕ) → l ≡ [] → l ≡ take k l
    nothing zero l e = e
    nothing (suc k) [] e = refl
    nothing (suc k) (x ∷ l) e = absurd (let q = e in cc)

    each : (f : ℕ) → items_at vs f ≡ with_first at n (items_at vs) f
    each f = elim (cases_Bool (f == at)) [
      | inl same ↦ rw same (nothing n (items_at vs f) (no_list vs f (rw (eqb-true f at same) l)))
      | inr other ↦ rw other refl
    ]

-- ---- keys

first_equal : (x y : Ordering) → is_eq (ordering_then x y) ≡ (is_eq x && is_eq y)
first_equal Less y = refl
first_equal Equal y = refl
first_equal Greater y = refl

equal_numbers : (a b : ℕ) → is_eq (nat_cmp a b) ≡ (b == a)
equal_numbers a b = elim (cases_lt a b) [
  | inl l ↦ rw (sym (nat_cmp_is a b Less l), ne_eqb b a (λ e. omega (arith, l, e))) refl
  | inr g ↦ elim (cases_lt b a) [
    | inl l ↦ rw (sym (nat_cmp_is a b Greater l), ne_eqb b a (λ e. omega (arith, l, e))) refl
    | inr h ↦ let e : a ≡ b = omega (arith, g, h) in rw (sym (nat_cmp_is a b Equal e), eq-eqb b a (sym e)) refl
  ]
]

pub key_is : (function id f local : ℕ) → is_eq (key_cmp (function, id) (f, local)) ≡ (f == function && local == id)
key_is function id f local = rw (first_equal (nat_cmp function f) (nat_cmp id local), equal_numbers function f, equal_numbers id local) refl

pub written_key : (function id index : ℕ) (old new : ℕ × ℕ → Option ℕ)
    → ((q : ℕ × ℕ) → new q ≡ (if is_eq (key_cmp (function, id) q) then Some index else old q))
    → (λ f local. new (f, local)) ≡ with_local function id index (λ f local. old (f, local))
written_key function id index old new h = agree _ _ (λ f. agree _ _ (λ local. h (f, local) ∙ rw (key_is function id f local) refl))
