-- Of sorted pairs the last of each location.
use Rattle.std.specs.Prelude.{ℕ, zero, suc, ◌+◌, ◌≡◌, ◌≤◌, ◌<◌, ◌==◌, ◌⊎◌, Bool, true, false, not, List, [], ◌∷◌, ◌++◌, Contains, drop, length, map, slice_index_or, refl}
use Rattle.std.specs.List.{AllByRecursion}
use Rattle.std.specs.List.Sorted.{IsPermutation, IsSorted, IsStrictlySortedBy}
use Rattle.std.specs.Ordering.{is_lt, nat_cmp, ordering_then}
use Rattle.std.specs.declared.cmp.Ordering.TheVariants.{Less}
use Rattle.std.proofs.Common.{ap, sym, ◌∙◌, subst, inl, inr, append_assoc, append-nil, arith}
use Rattle.std.proofs.lemmas.Bool.Decides.{nat_tests}
use Rattle.std.proofs.lemmas.Bool.{false≢true}
use Rattle.std.proofs.lemmas.List.Sorted.{Contains-permutation, IsPermutation-sym}
use Rattle.walrus_instr.specs.declared.seq.InstrLocId.{InstrLocId}
use Rattle.walrus_emit.specs.Pairs.{Pair, all_placed, ends, lasts, pair_cmp, placed}
use Rattle.walrus_emit.specs.Places.{ArePlaces, IsLastPlace, IsPlaceOf}

-- ---- elements

module _ {X : Type 0} where
  here : (x : X) (xs : List X) → Contains (x ∷ xs) x
  here x xs = (0, omega arith, refl)

  later : (x y : X) (xs : List X) → Contains xs y → Contains (x ∷ xs) y
  later x y xs c = (suc c.0, omega (arith, c.1), c.2)

  at_cases : (x y : X) (xs : List X) (k : ℕ) → k < length (x ∷ xs) → slice_index_or (x ∷ xs) k y ≡ y → (x ≡ y) ⊎ Contains xs y
  at_cases x y xs zero lt e = inl e
  at_cases x y xs (suc k) lt e = inr (k, omega (arith, lt), e)

  cases : (x y : X) (xs : List X) → Contains (x ∷ xs) y → (x ≡ y) ⊎ Contains xs y
  cases x y xs c = at_cases x y xs c.0 c.1 c.2

  none : (y : X) → Contains [] y → ⊥
  none y c = omega (arith, c.1)

module _ {X Y : Type 0} (f : X → Y) where
  to_map_at : (y x : X) (xs : List X) → (Contains xs x → Contains (map f xs) (f x)) → (y ≡ x) ⊎ Contains xs x → Contains (map f (y ∷ xs)) (f x)
  to_map_at y x xs rest (inl e) = subst (λ (z : Y). Contains (map f (y ∷ xs)) z) (ap f e) (here (f y) (map f xs))
  to_map_at y x xs rest (inr c) = later (f y) (f x) (map f xs) (rest c)

  to_map : (xs : List X) (x : X) → Contains xs x → Contains (map f xs) (f x)
  to_map [] x c = absurd (none x c)
  to_map (y ∷ xs) x c = to_map_at y x xs (λ d. to_map xs x d) (cases y x xs c)

  record Source (xs : List X) (z : Y) : Type 0 where
    at : X
    stands : Contains xs at
    is : f at ≡ z

  from_map_at : (y : X) (z : Y) (xs : List X) → (Contains (map f xs) z → Source xs z) → (f y ≡ z) ⊎ Contains (map f xs) z → Source (y ∷ xs) z
  from_map_at y z xs rest (inl e) = record { at = y; stands = here y xs; is = e }
  from_map_at y z xs rest (inr c) = let r = rest c in record { at = r.at; stands = later y r.at xs r.stands; is = r.is }

  from_map : (xs : List X) (z : Y) → Contains (map f xs) z → Source xs z
  from_map [] z c = absurd (none z c)
  from_map (y ∷ xs) z c = from_map_at y z xs (λ d. from_map xs z d) (cases (f y) z (map f xs) c)

-- ---- sorted pairs

abbrev Le : Pair → Pair → Type 0
Le x y = (x.0 < y.0) ⊎ ((x.0 ≡ y.0) × (x.1 ≤ y.1))

numbers_le : (a b c d : ℕ) → is_lt (ordering_then (nat_cmp c a) (nat_cmp d b)) ≡ false → (a < c) ⊎ ((a ≡ c) × (b ≤ d))
numbers_le a b c d h = grind (arith, nat_tests)

le_trans : (x y z : Pair) → Le x y → Le y z → Le x z
le_trans x y z (inl a) (inl b) = inl (omega (arith, a, b))
le_trans x y z (inl a) (inr b) = inl (omega (arith, a, b.0))
le_trans x y z (inr a) (inl b) = inl (omega (arith, a.0, b))
le_trans x y z (inr a) (inr b) = inr (omega (arith, a.0, b.0), omega (arith, a.1, b.1))

le_first : (x y : Pair) → Le x y → x.0 ≤ y.0
le_first x y (inl a) = omega (arith, a)
le_first x y (inr a) = omega (arith, a.0)

le_second : (x y : Pair) → Le x y → x.0 ≡ y.0 → x.1 ≤ y.1
le_second x y (inl a) e = absurd (omega (arith, a, e))
le_second x y (inr a) e = a.1

-- each is at most all behind it
abbrev Rise : List Pair → Type 0
Rise [] = Unit {0}
Rise (x ∷ xs) = ((y : Pair) → Contains xs y → Le x y) × Rise xs

rises_at : (x y z : Pair) (xs : List Pair) → Le x y → Rise (y ∷ xs) → (y ≡ z) ⊎ Contains xs z → Le x z
rises_at x y z xs first rest (inl e) = subst (λ (p : Pair). Le x p) e first
rises_at x y z xs first rest (inr c) = le_trans x y z first (rest.0 z c)

rises_on : (x y : Pair) (xs : List Pair) → Le x y → Rise (y ∷ xs) → Rise (x ∷ y ∷ xs)
rises_on x y xs first rest = (λ z c. rises_at x y z xs first rest (cases y z xs c), rest)

tail_sorted : (x : Pair) (xs : List Pair) → IsSorted pair_cmp (x ∷ xs) → IsSorted pair_cmp xs
tail_sorted x xs h = λ k d from upto.
    let e : suc k + 1 ≡ suc (k + 1) = omega arith in
    subst (λ (n : ℕ). is_lt (pair_cmp (slice_index_or (x ∷ xs) n d) (slice_index_or xs k d)) ≡ false) e (h (suc k) d (omega arith) (omega (arith, upto)))

rises : (xs : List Pair) → IsSorted pair_cmp xs → Rise xs
rises [] h = tt
rises (x ∷ []) h = (λ y c. absurd (none y c), tt)
rises (x ∷ y ∷ xs) h =
    rises_on x y xs (numbers_le x.0 x.1 y.0 y.1 (h 0 x (omega arith) (omega arith))) (rises (y ∷ xs) (tail_sorted x (y ∷ xs) h))

-- ---- the last ones

differ : (a b : ℕ) → not (b == a) ≡ true → a ≤ b → a < b
differ a b h le = grind (arith, nat_tests)

alike : (a b : ℕ) → not (b == a) ≡ false → b ≡ a
alike a b h = grind (arith, nat_tests)

-- behind the last one stand greater locations
above : (x : Pair) (xs : List Pair) → Rise (x ∷ xs) → ends (x ∷ xs) ≡ true → (y : Pair) → Contains xs y → x.0 < y.0
above x [] r e y c = absurd (none y c)
above x (q ∷ xs) r e y c = by (cases q y xs c)
  where
    lt : x.0 < q.0
    lt = differ x.0 q.0 e (le_first x q (r.0 q (here q xs)))

    by : (q ≡ y) ⊎ Contains xs y → x.0 < y.0
    by (inl is) = subst (λ (p : Pair). x.0 < p.0) is lt
    by (inr c) = let le = le_first q y (r.1.0 y c) in omega (arith, lt, le)

-- the next one is of the same location, where it isn't the last
record Next (x : Pair) (xs : List Pair) : Type 0 where
  at : Pair
  stands : Contains xs at
  same : at.0 ≡ x.0
  least : x.1 ≤ at.1

next : (x : Pair) (xs : List Pair) → Rise (x ∷ xs) → ends (x ∷ xs) ≡ false → Next x xs
next x [] r e = absurd (false≢true (sym e))
next x (q ∷ xs) r e =
    let is : q.0 ≡ x.0 = alike x.0 q.0 e in
    record { at = q; stands = here q xs; same = is; least = le_second x q (r.0 q (here q xs)) (sym is) }

-- it and its locations among fewer
fewer : (x : Pair) (xs : List Pair) (location at : ℕ) → IsLastPlace (x ∷ xs) location at → Contains xs (location, at) → IsLastPlace xs location at
fewer x xs location at h c = record { stands = c; last = λ other o. h.last other (later x (location, other) xs o) }

more : (x : Pair) (xs : List Pair) (location at : ℕ) → ((y : Pair) → Contains xs y → Le x y) → IsLastPlace xs location at → IsLastPlace (x ∷ xs) location at
more x xs location at le h = record {
  stands = later x (location, at) xs h.stands;
  last = λ other c. by other (cases x (location, other) xs c);
}
  where
    by : (other : ℕ) → (x ≡ (location, other)) ⊎ Contains xs (location, other) → other ≤ at
    by other (inl is) =
        le_second (location, other) (location, at) (subst (λ (p : Pair). Le p (location, at)) is (le (location, at) h.stands)) refl
    by other (inr c) = h.last other c

alone : (x : Pair) (xs : List Pair) → ((y : Pair) → Contains xs y → x.0 < y.0) → IsLastPlace (x ∷ xs) x.0 x.1
alone x xs lt = record { stands = here x xs; last = λ other c. by other (cases x (x.0, other) xs c) }
  where
    by : (other : ℕ) → (x ≡ (x.0, other)) ⊎ Contains xs (x.0, other) → other ≤ x.1
    by other (inl is) = let e : x.1 ≡ other = ap (λ (p : Pair). p.1) is in omega (arith, e)
    by other (inr c) = let l = lt (x.0, other) c in absurd (omega (arith, l))

lasts_then : (x : Pair) (xs : List Pair) → ends (x ∷ xs) ≡ true → lasts (x ∷ xs) ≡ x ∷ lasts xs
lasts_then x xs e = rw e refl

lasts_else : (x : Pair) (xs : List Pair) → ends (x ∷ xs) ≡ false → lasts (x ∷ xs) ≡ lasts xs
lasts_else x xs e = rw e refl

is_true : (b : Bool) → (b ≡ true) ⊎ (b ≡ false)
is_true true = inl refl
is_true false = inr refl

module _ (x : Pair) (xs : List Pair) (r : Rise (x ∷ xs)) (p : Pair) where
  found_last : ends (x ∷ xs) ≡ true → (Contains (lasts xs) p → IsLastPlace xs p.0 p.1) → (x ≡ p) ⊎ Contains (lasts xs) p → IsLastPlace (x ∷ xs) p.0 p.1
  found_last e rest (inl is) = subst (λ (q : Pair). IsLastPlace (x ∷ xs) q.0 q.1) is (alone x xs (above x xs r e))
  found_last e rest (inr c) = more x xs p.0 p.1 r.0 (rest c)

  found_at : Contains (lasts (x ∷ xs)) p → (Contains (lasts xs) p → IsLastPlace xs p.0 p.1) → (ends (x ∷ xs) ≡ true) ⊎ (ends (x ∷ xs) ≡ false) → IsLastPlace (x ∷ xs) p.0 p.1
  found_at c rest (inl e) = found_last e rest (cases x p (lasts xs) (subst (λ (l : List Pair). Contains l p) (lasts_then x xs e) c))
  found_at c rest (inr e) = more x xs p.0 p.1 r.0 (rest (subst (λ (l : List Pair). Contains l p) (lasts_else x xs e) c))

  -- where the next one is of its location, it stands further on, too
  twice : (q : Pair) → Contains xs q → q.0 ≡ x.0 → x.1 ≤ q.1 → IsLastPlace (x ∷ xs) p.0 p.1 → x ≡ p → Contains xs p
  twice q stands same le h is =
      let c : Contains xs (p.0, q.1) = subst (λ (l : ℕ). Contains xs (l, q.1)) (same ∙ ap (λ (y : Pair). y.0) is) stands in
      let most : q.1 ≤ p.1 = h.last q.1 (later x (p.0, q.1) xs c) in
      let least : p.1 ≤ q.1 = subst (λ (y : Pair). y.1 ≤ q.1) is le in
      let e : q.1 ≡ p.1 = omega (arith, most, least) in
      subst (λ (m : ℕ). Contains xs (p.0, m)) e c

  inside : ends (x ∷ xs) ≡ false → IsLastPlace (x ∷ xs) p.0 p.1 → (x ≡ p) ⊎ Contains xs p → Contains xs p
  inside e h (inl is) = let n = next x xs r e in twice n.at n.stands n.same n.least h is
  inside e h (inr c) = c

  find_last : IsLastPlace (x ∷ xs) p.0 p.1 → (IsLastPlace xs p.0 p.1 → Contains (lasts xs) p) → (x ≡ p) ⊎ Contains xs p → Contains (x ∷ lasts xs) p
  find_last h rest (inl is) = subst (λ (q : Pair). Contains (x ∷ lasts xs) q) is (here x (lasts xs))
  find_last h rest (inr c) = later x p (lasts xs) (rest (fewer x xs p.0 p.1 h c))

  find_at : IsLastPlace (x ∷ xs) p.0 p.1 → (IsLastPlace xs p.0 p.1 → Contains (lasts xs) p) → (ends (x ∷ xs) ≡ true) ⊎ (ends (x ∷ xs) ≡ false) → Contains (lasts (x ∷ xs)) p
  find_at h rest (inl e) = subst (λ (l : List Pair). Contains l p) (sym (lasts_then x xs e)) (find_last h rest (cases x p xs h.stands))
  find_at h rest (inr e) = subst (λ (l : List Pair). Contains l p) (sym (lasts_else x xs e)) (rest (fewer x xs p.0 p.1 h (inside e h (cases x p xs h.stands))))

-- one of the last ones is the last place of its location
found : (xs : List Pair) → Rise xs → (p : Pair) → Contains (lasts xs) p → IsLastPlace xs p.0 p.1
found [] r p c = absurd (none p c)
found (x ∷ xs) r p c = found_at x xs r p c (λ d. found xs r.1 p d) (is_true (ends (x ∷ xs)))

-- and each last place is among them
find : (xs : List Pair) → Rise xs → (p : Pair) → IsLastPlace xs p.0 p.1 → Contains (lasts xs) p
find [] r p h = absurd (none p h.stands)
find (x ∷ xs) r p h = find_at x xs r p h (λ l. find xs r.1 p l) (is_true (ends (x ∷ xs)))

-- ---- by rising location

less : (a b : ℕ) → a < b → nat_cmp a b ≡ Less
less a b h = grind (arith, nat_tests)

abbrev locations_of : List Pair → List ℕ
locations_of xs = map (λ (p : Pair). p.0) xs

all_less : (a : ℕ) (xs : List Pair) → ((y : Pair) → Contains xs y → a < y.0) → AllByRecursion (λ (b : ℕ). nat_cmp a b ≡ Less) (locations_of xs)
all_less a [] h = tt
all_less a (x ∷ xs) h = (less a x.0 (h x (here x xs)), all_less a xs (λ y c. h y (later x y xs c)))

rising_at : (x : Pair) (xs : List Pair) → Rise (x ∷ xs) → IsStrictlySortedBy nat_cmp (locations_of (lasts xs)) → (ends (x ∷ xs) ≡ true) ⊎ (ends (x ∷ xs) ≡ false)
    → IsStrictlySortedBy nat_cmp (locations_of (lasts (x ∷ xs)))
unfolding IsStrictlySortedBy
rising_at x xs r rest (inl e) =
    subst (λ (l : List Pair). IsStrictlySortedBy nat_cmp (locations_of l)) (sym (lasts_then x xs e))
    (all_less x.0 (lasts xs) (λ y c. above x xs r e y (found xs r.1 y c).stands), rest)
rising_at x xs r rest (inr e) = subst (λ (l : List Pair). IsStrictlySortedBy nat_cmp (locations_of l)) (sym (lasts_else x xs e)) rest

rising : (xs : List Pair) → Rise xs → IsStrictlySortedBy nat_cmp (locations_of (lasts xs))
unfolding IsStrictlySortedBy
rising [] r = tt
rising (x ∷ xs) r = rising_at x xs r (rising xs r.1) (is_true (ends (x ∷ xs)))

-- ---- all of it

places_same : (start : ℕ) (xs : List Pair) → map (λ (p : InstrLocId × ℕ). p.0.0) (map (placed start) xs) ≡ locations_of xs
places_same start [] = refl
places_same start (x ∷ xs) = ap (λ (l : List ℕ). x.0 ∷ l) (places_same start xs)

module _ (locations sorted : List Pair) (start : ℕ) (moved : IsPermutation locations sorted) where
  there : (location at : ℕ) → IsLastPlace sorted location at → IsLastPlace locations location at
  there location at h = record {
    stands = Contains-permutation sorted locations (location, at) (IsPermutation-sym locations sorted moved) h.stands;
    last = λ other c. h.last other (Contains-permutation locations sorted (location, other) moved c);
  }

  back : (location at : ℕ) → IsLastPlace locations location at → IsLastPlace sorted location at
  back location at h = record {
    stands = Contains-permutation locations sorted (location, at) moved h.stands;
    last = λ other c. h.last other (Contains-permutation sorted locations (location, other) (IsPermutation-sym locations sorted moved) c);
  }

  pub are_places : (items : List (InstrLocId × ℕ)) → IsSorted pair_cmp sorted → items ≡ all_placed start sorted → ArePlaces locations start items
  are_places items in_order is = record {
    rising = subst (λ (l : List (InstrLocId × ℕ)). IsStrictlySortedBy nat_cmp (map (λ (p : InstrLocId × ℕ). p.0.0) l)) (sym is)
        (subst (λ (l : List ℕ). IsStrictlySortedBy nat_cmp l) (sym (places_same start (lasts sorted))) (rising sorted (rises sorted in_order)));
    each = λ p. (forth p, home p);
  }
    where
      forth : (p : InstrLocId × ℕ) → Contains items p → IsPlaceOf locations start p
      forth p c =
          let r = from_map (placed start) (lasts sorted) p (subst (λ (l : List (InstrLocId × ℕ)). Contains l p) is c) in
          subst (λ (q : InstrLocId × ℕ). IsPlaceOf locations start q) r.is
          (record { at = r.at.1; counted = refl; last = there r.at.0 r.at.1 (found sorted (rises sorted in_order) r.at r.stands) })

      home : (p : InstrLocId × ℕ) → IsPlaceOf locations start p → Contains items p
      home p h =
          let c : Contains (lasts sorted) (p.0.0, h.at) = find sorted (rises sorted in_order) (p.0.0, h.at) (back p.0.0 h.at h.last) in
          subst (λ (l : List (InstrLocId × ℕ)). Contains l p) (sym is)
          (subst (λ (m : ℕ). Contains (all_placed start sorted) (p.0, m)) (sym h.counted) (to_map (placed start) (lasts sorted) (p.0.0, h.at) c))

-- ---- one pair more

drop_at : (xs : List Pair) (at : ℕ) (d : Pair) → at < length xs → drop at xs ≡ slice_index_or xs at d ∷ drop (suc at) xs
drop_at [] at d lt = absurd (omega (arith, lt))
drop_at (x ∷ xs) zero d lt = refl
drop_at (x ∷ xs) (suc at) d lt = drop_at xs at d (omega (arith, lt))

pub kept_on : (xs : List Pair) (at start : ℕ) (d p : Pair) (old new : List (InstrLocId × ℕ)) → at < length xs → p ≡ slice_index_or xs at d → ends (drop at xs) ≡ true
    → new ≡ old ++ placed start p ∷ [] → new ++ all_placed start (drop (at + 1) xs) ≡ old ++ all_placed start (drop at xs)
kept_on xs at start d p old new lt is e h =
    let one : at + 1 ≡ suc at = omega arith in
    let step : drop at xs ≡ p ∷ drop (suc at) xs = drop_at xs at d lt ∙ ap (λ (q : Pair). q ∷ drop (suc at) xs) (sym is) in
    ap (λ (n : ℕ). new ++ all_placed start (drop n xs)) one
    ∙ ap (λ (l : List (InstrLocId × ℕ)). l ++ all_placed start (drop (suc at) xs)) h
    ∙ append_assoc old (placed start p ∷ []) (all_placed start (drop (suc at) xs))
    ∙ ap (λ (l : List Pair). old ++ map (placed start) l) (sym (lasts_then p (drop (suc at) xs) (ap ends (sym step) ∙ e)))
    ∙ ap (λ (l : List Pair). old ++ all_placed start l) (sym step)

pub left_out : (xs : List Pair) (at start : ℕ) (d : Pair) (old : List (InstrLocId × ℕ)) → at < length xs → ends (drop at xs) ≡ false
    → old ++ all_placed start (drop (at + 1) xs) ≡ old ++ all_placed start (drop at xs)
left_out xs at start d old lt e =
    let one : at + 1 ≡ suc at = omega arith in
    let p = slice_index_or xs at d in
    let step : drop at xs ≡ p ∷ drop (suc at) xs = drop_at xs at d lt in
    ap (λ (n : ℕ). old ++ all_placed start (drop n xs)) one
    ∙ ap (λ (l : List Pair). old ++ map (placed start) l) (sym (lasts_else p (drop (suc at) xs) (ap ends (sym step) ∙ e)))
    ∙ ap (λ (l : List Pair). old ++ all_placed start l) (sym step)

past : (xs : List Pair) (at : ℕ) → length xs ≤ at → drop at xs ≡ []
past [] zero le = refl
past [] (suc at) le = refl
past (x ∷ xs) zero le = absurd (omega (arith, le))
past (x ∷ xs) (suc at) le = past xs at (omega (arith, le))

pub none_left : (xs : List Pair) (at start : ℕ) (items : List (InstrLocId × ℕ)) → length xs ≤ at → items ++ all_placed start (drop at xs) ≡ all_placed start xs → items ≡ all_placed start xs
none_left xs at start items le h = sym (append-nil items) ∙ ap (λ (l : List Pair). items ++ all_placed start l) (sym (past xs at le)) ∙ h
