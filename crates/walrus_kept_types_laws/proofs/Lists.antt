-- Lemmas: lists, and the places of what stands in them.
use Rattle.std.proofs.Common.{◌≡◌, ◌∙◌, ◌⊎◌, inl, inr, ℕ, zero, suc, ◌+◌, Bool, true, false, ◌||◌, List, [], ◌∷◌, ◌++◌, length, map, filter, Option, Some, None, if◌then◌else◌, refl, sym, ap, arith}
use Rattle.std.specs.Prelude.{slice_index_or}
use Rattle.std.specs.List.{slice_get, list_any, filter_map, cons_option, flat_map, range_with_len}
use Rattle.std.proofs.lemmas.Bool.{false≢true, cases_Bool, eq-eqb, ne_eqb}
use Rattle.std.proofs.lemmas.List.{length-map}
use Rattle.std.proofs.lemmas.List.FromFn.{length-range_with_len}
use Rattle.std.proofs.lemmas.Option.{get_or_from_slice_get, none-some, same_Some, slice_get_within}
use Rattle.walrus_forms.proofs.RenamingLemmas.{In}
use Rattle.walrus_types.proofs.Places.{Has, Once, at_map, map_at, range_at, same_list}
use Rattle.walrus_kept_types_laws.specs.Placed.{place_among}

-- ---- places

pub place_at : (ids : List ℕ) → Once ids → (k id : ℕ) → slice_get ids k ≡ Some id → place_among ids id ≡ k
place_at [] once k id at = absurd (none-some id at)
place_at (n ∷ ns) once zero id at =
    let e : n ≡ id = same_Some n id at in
    ap (λ (b : Bool). if b then 0 else suc (place_among ns id)) (eq-eqb n id e)
place_at (n ∷ ns) once (suc k) id at =
    let apart : n ≡ id → ⊥ = λ e. omega (arith, once 0 (suc k) id (ap Some e) at) in
    ap (λ (b : Bool). if b then 0 else suc (place_among ns id)) (ne_eqb n id apart)
    ∙ ap suc (place_at ns (λ p q x at_p at_q. let e = once (suc p) (suc q) x at_p at_q in omega (arith, e)) k id at)

pub has_place : (ids : List ℕ) → Once ids → (id : ℕ) → Has ids id → slice_get ids (place_among ids id) ≡ Some id
has_place ids once id h = ap (λ (k : ℕ). slice_get ids k) (place_at ids once h.0 id h.1) ∙ h.1

pub all_places : (ids : List ℕ) → Once ids → map (place_among ids) ids ≡ range_with_len 0 (length ids)
all_places ids once =
    same_list (map (place_among ids) ids) (range_with_len 0 (length ids))
    (λ i x at.
    let m = map_at (place_among ids) ids i x at in
    let e : 0 + i ≡ x = (let z : 0 + i ≡ i = omega arith in z) ∙ sym (place_at ids once i m.0 m.1) ∙ m.2 in
    range_at 0 (length ids) i (slice_get_within ids i m.0 m.1) ∙ ap Some e)
    (length-map ids (place_among ids) ∙ sym (length-range_with_len 0 (length ids)))

-- ---- maps

mapped_if : (f : ℕ → ℕ) (x : ℕ) (ys zs : List ℕ) (b : Bool) → ys ≡ map f zs → (if b then f x ∷ ys else ys) ≡ map f (if b then x ∷ zs else zs)
mapped_if f x ys zs true e = ap (λ (l : List ℕ). f x ∷ l) e
mapped_if f x ys zs false e = e

pub filter_mapped : (f : ℕ → ℕ) (p q : ℕ → Bool) (xs : List ℕ) → ((k x : ℕ) → slice_get xs k ≡ Some x → p (f x) ≡ q x) → filter p (map f xs) ≡ map f (filter q xs)
filter_mapped f p q [] all = refl
filter_mapped f p q (x ∷ xs) all =
    ap (λ (b : Bool). if b then f x ∷ filter p (map f xs) else filter p (map f xs)) (all 0 x refl)
    ∙ mapped_if f x (filter p (map f xs)) (filter q xs) (q x) (filter_mapped f p q xs (λ k y at. all (suc k) y at))

pub filter_same : (p q : ℕ → Bool) (xs : List ℕ) → ((k x : ℕ) → slice_get xs k ≡ Some x → p x ≡ q x) → filter p xs ≡ filter q xs
filter_same p q [] all = refl
filter_same p q (x ∷ xs) all =
    ap (λ (b : Bool). if b then x ∷ filter p xs else filter p xs) (all 0 x refl)
    ∙ ap (λ (l : List ℕ). if q x then x ∷ l else l) (filter_same p q xs (λ k y at. all (suc k) y at))

pub any_mapped : (f : ℕ → ℕ) (p q : ℕ → Bool) (xs : List ℕ) → ((k x : ℕ) → slice_get xs k ≡ Some x → p (f x) ≡ q x) → list_any p (map f xs) ≡ list_any q xs
any_mapped f p q [] all = refl
any_mapped f p q (x ∷ xs) all =
    ap (λ (b : Bool). b || list_any p (map f xs)) (all 0 x refl) ∙ ap (λ (b : Bool). q x || b) (any_mapped f p q xs (λ k y at. all (suc k) y at))

pub found_mapped : {Y : Type 0} (f : ℕ → ℕ) (g h : ℕ → Option Y) (xs : List ℕ) → ((k x : ℕ) → slice_get xs k ≡ Some x → g (f x) ≡ h x) → filter_map g (map f xs) ≡ filter_map h xs
found_mapped f g h [] all = refl
found_mapped {Y} f g h (x ∷ xs) all =
    ap (λ (o : Option Y). cons_option o (filter_map g (map f xs))) (all 0 x refl)
    ∙ ap (λ (ys : List Y). cons_option (h x) ys) (found_mapped f g h xs (λ k y at. all (suc k) y at))

pub get_mapped : {X Y : Type 0} (f : X → Y) (xs : List X) (i : ℕ) (d : X) → slice_index_or (map f xs) i (f d) ≡ f (slice_index_or xs i d)
get_mapped f [] i d = refl
get_mapped f (x ∷ xs) zero d = refl
get_mapped f (x ∷ xs) (suc i) d = get_mapped f xs i d

-- what a list of what was found has at a place
pub at_found : {Y : Type 0} (f : ℕ → Option Y) (ids : List ℕ) (k id : ℕ) → slice_get ids k ≡ Some id → slice_index_or (map f ids) k None ≡ f id
at_found f ids k id at = get_or_from_slice_get (map f ids) k (f id) None (at_map f ids k id at)

pub found_at : {Y Z : Type 0} (f : ℕ → Option Y) (g : Option Y → Option Z) → g None ≡ None → (ids : List ℕ) (k : ℕ) (z : Z) → g (slice_index_or (map f ids) k None) ≡ Some z
    → (id : ℕ) × (slice_get ids k ≡ Some id) × (g (f id) ≡ Some z)
found_at f g none [] k z is = absurd (none-some z (sym none ∙ is))
found_at f g none (id ∷ ids) zero z is = (id, refl, is)
found_at f g none (id ∷ ids) (suc k) z is = found_at f g none ids k z is

-- ---- what is in a list

pub in_split : (xs ys : List ℕ) (m : ℕ) → In m (xs ++ ys) → In m xs ⊎ In m ys
in_split [] ys m h = inr h
in_split (x ∷ xs) ys m (inl e) = inl (inl e)
in_split (x ∷ xs) ys m (inr h) = elim (in_split xs ys m h) as (λ _. In m (x ∷ xs) ⊎ In m ys) [ inl i ↦ inl (inr i) | inr i ↦ inr i ]

pub in_has : (xs : List ℕ) (m : ℕ) → In m xs → Has xs m
in_has [] m i = absurd i
in_has (x ∷ xs) m (inl e) = (0, ap Some e)
in_has (x ∷ xs) m (inr i) = let h = in_has xs m i in (suc h.0, h.1)

pub has_in : (xs : List ℕ) (k m : ℕ) → slice_get xs k ≡ Some m → In m xs
has_in [] k m at = absurd (none-some m at)
has_in (x ∷ xs) zero m at = inl (same_Some x m at)
has_in (x ∷ xs) (suc k) m at = inr (has_in xs k m at)

pub flat_append : {X Y : Type 0} (f : X → List Y) (xs ys : List X) → flat_map f (xs ++ ys) ≡ flat_map f xs ++ flat_map f ys
flat_append f [] ys = refl
flat_append {X} {Y} f (x ∷ xs) ys = ap (λ (l : List Y). f x ++ l) (flat_append f xs ys) ∙ appended (f x) (flat_map f xs) (flat_map f ys)
  where
    appended : (a b c : List Y) → a ++ (b ++ c) ≡ (a ++ b) ++ c
    appended [] b c = refl
    appended (z ∷ a) b c = ap (λ (l : List Y). z ∷ l) (appended a b c)

-- ---- tests

pub passed : {X : Type 0} (test : X → Bool) (x : X) (more : List X) → test x ≡ true → filter test (x ∷ more) ≡ x ∷ filter test more
passed test x more passes = ap (λ (b : Bool). if b then x ∷ filter test more else filter test more) passes

pub failed : {X : Type 0} (test : X → Bool) (x : X) (more : List X) → test x ≡ false → filter test (x ∷ more) ≡ filter test more
failed test x more fails = ap (λ (b : Bool). if b then x ∷ filter test more else filter test more) fails

pub none_pass : (test : ℕ → Bool) (xs : List ℕ) → ((k x : ℕ) → slice_get xs k ≡ Some x → test x ≡ false) → filter test xs ≡ []
none_pass test [] all = refl
none_pass test (x ∷ xs) all = failed test x xs (all 0 x refl) ∙ none_pass test xs (λ k y at. all (suc k) y at)

-- none of those that pass one test passes another
pub none_among : (test pick : ℕ → Bool) (xs : List ℕ) → ((k x : ℕ) → slice_get xs k ≡ Some x → test x ≡ false) → list_any test (filter pick xs) ≡ false
none_among test pick [] all = refl
none_among test pick (x ∷ xs) all =
    let later : list_any test (filter pick xs) ≡ false = none_among test pick xs (λ k y at. all (suc k) y at) in
    elim (cases_Bool (pick x)) as (λ _. list_any test (filter pick (x ∷ xs)) ≡ false) [
      | inl so ↦ ap (λ (l : List ℕ). list_any test l) (passed pick x xs so) ∙ ap (λ (b : Bool). b || list_any test (filter pick xs)) (all 0 x refl) ∙ later
      | inr not_so ↦ ap (λ (l : List ℕ). list_any test l) (failed pick x xs not_so) ∙ later
    ]

neither : (a b : Bool) → (a || b) ≡ false → (a ≡ false) × (b ≡ false)
neither true b e = absurd (false≢true (sym e))
neither false b e = (refl, e)

pub none_of : (test : ℕ → Bool) (xs : List ℕ) → list_any test xs ≡ false → (k x : ℕ) → slice_get xs k ≡ Some x → test x ≡ false
none_of test [] none k x at = absurd (none-some x at)
none_of test (y ∷ xs) none zero x at = ap test (sym (same_Some y x at)) ∙ (neither (test y) (list_any test xs) none).0
none_of test (y ∷ xs) none (suc k) x at = none_of test xs (neither (test y) (list_any test xs) none).1 k x at
