-- A stable sort by numbers gives a list by rising numbers.
use Rattle.std.proofs.Common.{◌≡◌, ℕ, zero, suc, ◌<◌, ◌≤◌, Bool, true, false, cond, List, [], ◌∷◌, length, map, get_or, filter, nat_cmp, is_lt, refl, sym, ap, ◌∙◌, arith, inl, inr, suc-le-suc, zero-le, lt-ltb, le-ltb}
use Rattle.std.proofs.lemmas.Bool.{cond-true, cond-false, cases_Bool, cases_lt}
use Rattle.std.proofs.lemmas.Bool.Decides.{nat_tests}
use Rattle.std.specs.List.Sorted.{ties, IsNonDecreasingBy, IsStableByKey}
use Rattle.walrus_emit_customs.specs.Rising.{placed, rising}

ties_at : (m n : ℕ) → (ties (λ x y. is_lt (nat_cmp x y)) m n ≡ true → m ≡ n) × (m ≡ n → ties (λ x y. is_lt (nat_cmp x y)) m n ≡ true)
ties_at m n = (λ h. grind (arith, nat_tests), λ h. grind (arith, nat_tests))

module _ {X : Type 0} where
  filter-kept : (p : X → Bool) (y : X) (ys : List X) → p y ≡ true → filter p (y ∷ ys) ≡ y ∷ filter p ys
  filter-kept p y ys h = cond-true _ _ _ h

  filter-dropped : (p : X → Bool) (y : X) (ys : List X) → p y ≡ false → filter p (y ∷ ys) ≡ filter p ys
  filter-dropped p y ys h = cond-false _ _ _ h

module _ {X : Type 0} (number : X → ℕ) where
  abbrev same : X → X → Bool
  same = ties (λ x y. is_lt (nat_cmp (number x) (number y)))

  same-true : (x y : X) → same x y ≡ true → number x ≡ number y
  same-true x y = (ties_at (number x) (number y)).0

  same_from : (x y : X) → number x ≡ number y → same x y ≡ true
  same_from x y = (ties_at (number x) (number y)).1

  placed-past : (x y : X) (ys : List X) → number y < number x → placed number x (y ∷ ys) ≡ y ∷ placed number x ys
  placed-past x y ys h = cond-true _ _ _ (lt-ltb (number y) (number x) h)

  placed-stays : (x y : X) (ys : List X) → number x ≤ number y → placed number x (y ∷ ys) ≡ x ∷ y ∷ ys
  placed-stays x y ys h = cond-false _ _ _ (le-ltb (number y) (number x) h)

  -- ---- items of one number stay in their order

  filter-placed : (x c : X) (ds : List X) → filter (same x) (placed number c ds) ≡ filter (same x) (c ∷ ds)
  filter-placed x c [] = refl
  filter-placed x c (d ∷ ds) =
      let p = same x in
      elim (cases_lt (number d) (number c)) [
        | inr stays ↦ ap (filter p) (placed-stays c d ds stays)
        | inl past ↦
            ap (filter p) (placed-past c d ds past)
            ∙ elim (cases_Bool (p d)) [
              | inr without ↦
                  filter-dropped p d (placed number c ds) without ∙ filter-placed x c ds
                  ∙ ap (λ l. cond (p c) (c ∷ l) l) (sym (filter-dropped p d ds without))
              | inl with ↦
                  elim (cases_Bool (p c)) [
                    | inl both ↦ absurd (omega (arith, past, same-true x c both, same-true x d with))
                    | inr only ↦
                        filter-kept p d (placed number c ds) with ∙ ap (λ l. d ∷ l) (filter-placed x c ds ∙ filter-dropped p c ds only)
                        ∙ sym (filter-dropped p c (d ∷ ds) only ∙ filter-kept p d ds with)
                  ]
            ]
      ]

  filter-rising : (x : X) (cs : List X) → filter (same x) (rising number cs) ≡ filter (same x) cs
  filter-rising x [] = refl
  filter-rising x (c ∷ cs) =
      filter-placed x c (rising number cs) ∙ ap (λ l. cond (same x c) (c ∷ l) l) (filter-rising x cs)

  -- ---- numbers rise

  abbrev AreAtLeast : ℕ → List X → Type 0
  AreAtLeast n [] = Unit {0}
  AreAtLeast n (y ∷ ys) = (n ≤ number y) × AreAtLeast n ys

  abbrev Rises : List X → Type 0
  Rises [] = Unit {0}
  Rises (y ∷ ys) = AreAtLeast (number y) ys × Rises ys

  lower : (n m : ℕ) (ys : List X) → n ≤ m → AreAtLeast m ys → AreAtLeast n ys
  lower n m [] le h = tt
  lower n m (y ∷ ys) le h = let first = h.0 in (omega (arith, le, first), lower n m ys le h.1)

  placed_above : (n : ℕ) (c : X) (ds : List X) → n ≤ number c → AreAtLeast n ds → AreAtLeast n (placed number c ds)
  placed_above n c [] le h = (le, tt)
  placed_above n c (d ∷ ds) le h = elim (cases_lt (number d) (number c)) as (λ _. AreAtLeast n (placed number c (d ∷ ds))) [
    | inl past ↦ rw (placed-past c d ds past) (h.0, placed_above n c ds le h.1)
    | inr stays ↦ rw (placed-stays c d ds stays) (le, h)
  ]

  placed_rises : (c : X) (ds : List X) → Rises ds → Rises (placed number c ds)
  placed_rises c [] h = (tt, tt)
  placed_rises c (d ∷ ds) h = elim (cases_lt (number d) (number c)) as (λ _. Rises (placed number c (d ∷ ds))) [
    | inl past ↦ rw (placed-past c d ds past) (placed_above (number d) c ds (omega (arith, past)) h.0, placed_rises c ds h.1)
    | inr stays ↦ rw (placed-stays c d ds stays) ((stays, lower (number c) (number d) ds stays h.0), h)
  ]

  rising_rises : (cs : List X) → Rises (rising number cs)
  rising_rises [] = tt
  rising_rises (c ∷ cs) = placed_rises c (rising number cs) (rising_rises cs)

  least_at : (n : ℕ) (ys : List X) → ((j : ℕ) (d : X) → j < length ys → n ≤ number (get_or ys j d)) → AreAtLeast n ys
  least_at n [] h = tt
  least_at n (y ∷ ys) h = (h zero y (suc-le-suc zero-le), least_at n ys (λ j d lt. h (suc j) d (suc-le-suc lt)))

  rises_sorted : (ys : List X) → IsNonDecreasingBy number ys → Rises ys
  rises_sorted [] h = tt
  rises_sorted (y ∷ ys) h = (
    least_at (number y) ys (λ j d lt. h zero (suc j) d zero-le (suc-le-suc lt)),
    rises_sorted ys (λ i j d le lt. h (suc i) (suc j) d (suc-le-suc le) (suc-le-suc lt)),
  )

  -- ---- one list rises that has the items of each number in their order

  -- the number of x occurs among them
  least_found : (n : ℕ) (x : X) (ys : List X) (w : X) (ws : List X) → AreAtLeast n ys → filter (same x) ys ≡ w ∷ ws → n ≤ number x
  least_found n x [] w ws h e = absurd cc
  least_found n x (y ∷ ys) w ws h e =
      elim (cases_Bool (same x y)) [
        | inl with ↦ omega (arith, h.0, same-true x y with)
        | inr without ↦ least_found n x ys w ws h.1 (sym (filter-dropped (same x) y ys without) ∙ e)
      ]

  one_list : (ys zs : List X) → Rises ys → Rises zs → ((x : X) → filter (same x) ys ≡ filter (same x) zs) → ys ≡ zs
  one_list [] [] left right same_items = refl
  one_list [] (z ∷ zs) left right same_items =
      let clash = same_items z ∙ filter-kept (same z) z zs (same_from z z refl) in absurd cc
  one_list (y ∷ ys) [] left right same_items =
      let clash = sym (same_items y) ∙ filter-kept (same y) y ys (same_from y y refl) in absurd cc
  one_list (y ∷ ys) (z ∷ zs) left right same_items =
      let at_y = filter-kept (same y) y ys (same_from y y refl) in
      let at_z = filter-kept (same z) z zs (same_from z z refl) in
      let up = least_found (number z) y (z ∷ zs) y _ (omega arith, right.0) (sym (same_items y) ∙ at_y) in
      let down = least_found (number y) z (y ∷ ys) z _ (omega arith, left.0) (same_items z ∙ at_z) in
      let heads = sym at_y ∙ same_items y ∙ filter-kept (same y) z zs (same_from y z (omega arith)) in
      let head : y ≡ z = cc in
      let tails : (x : X) → filter (same x) ys ≡ filter (same x) zs =
      λ x. elim (cases_Bool (same x y)) [
        | inl with ↦
            let both = sym (filter-kept (same x) y ys with) ∙ same_items x ∙ filter-kept (same x) z zs (ap (same x) (sym head) ∙ with) in cc
        | inr without ↦
            sym (filter-dropped (same x) y ys without) ∙ same_items x ∙ filter-dropped (same x) z zs (ap (same x) (sym head) ∙ without)
      ] in
      ap (λ w. w ∷ ys) head ∙ ap (λ l. z ∷ l) (one_list ys zs left.1 right.1 tails)

  pub sorted_is : (xs ys : List X) → IsNonDecreasingBy number ys → IsStableByKey number nat_cmp xs ys → ys ≡ rising number xs
  sorted_is xs ys sorted stable =
      one_list ys (rising number xs) (rises_sorted ys sorted) (rising_rises xs) (λ x. stable x ∙ sym (filter-rising x xs))

-- ---- the items of a list are seen as others of the same numbers

module _ {X Y : Type 0} (see : X → Y) (number : Y → ℕ) where
  seen_placed : (c : X) (ds : List X) → map see (placed (λ (x : X). number (see x)) c ds) ≡ placed number (see c) (map see ds)
  seen_placed c [] = refl
  seen_placed c (d ∷ ds) = elim (cases_lt (number (see d)) (number (see c))) as (λ _. map see (placed (λ (x : X). number (see x)) c (d ∷ ds)) ≡ placed number (see c) (map see (d ∷ ds))) [
    | inl past ↦
        ap (λ (l : List X). map see l) (placed-past (λ (x : X). number (see x)) c d ds past)
        ∙ ap (λ (l : List Y). see d ∷ l) (seen_placed c ds)
        ∙ sym (placed-past number (see c) (see d) (map see ds) past)
    | inr stays ↦
        ap (λ (l : List X). map see l) (placed-stays (λ (x : X). number (see x)) c d ds stays)
        ∙ sym (placed-stays number (see c) (see d) (map see ds) stays)
  ]

  seen_rising : (xs : List X) → map see (rising (λ (x : X). number (see x)) xs) ≡ rising number (map see xs)
  seen_rising [] = refl
  seen_rising (x ∷ xs) =
      seen_placed x (rising (λ (x : X). number (see x)) xs) ∙ ap (λ (l : List Y). placed number (see x) l) (seen_rising xs)

  pub sorted_seen : (xs ys : List X) → IsNonDecreasingBy (λ (x : X). number (see x)) ys → IsStableByKey (λ (x : X). number (see x)) nat_cmp xs ys
      → map see ys ≡ rising number (map see xs)
  sorted_seen xs ys sorted stable =
      ap (λ (l : List X). map see l) (sorted_is (λ (x : X). number (see x)) xs ys sorted stable) ∙ seen_rising xs
