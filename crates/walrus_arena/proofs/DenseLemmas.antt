-- What an add, a write and a take make of the two lists of an arena, and of the slots that they stand for.
use Rattle.std.proofs.Common.{◌≡◌, ℕ, zero, suc, ◌+◌, ◌-◌, ◌<◌, ◌≤◌, ◌⊎◌, List, [], ◌∷◌, ◌++◌, length, map, take, Option, Some, None, is_some, IsSome, IfSome, count_by, cond, option_map, option_and_then, slice_get, slice_index_or, slice_set, swap_remove, inl, inr, ⊎_elim, refl, sym, ap, ◌∙◌, arith, length-set, length-append, length-take}
use Rattle.std.proofs.lemmas.Bool.{cases_lt, cases_eq}
use Rattle.std.proofs.lemmas.List.{length-map, map-append, get_or_past}
use Rattle.std.proofs.lemmas.List.Sums.{count_by-le-length, sum_by_push, sum_by-set}
use Rattle.std.proofs.lemmas.Option.{slice_get-map, slice_get_within, slice_get_past, slice_get-get_or, slice_get_read, get_or_from_slice_get, same_Some, some_pair_parts}
use Rattle.walrus_arena.specs.Dense.{nowhere, item_in, slots_of, IsDense}

module _ {X : Type 0} where
  -- lists that hold the same at each place are one
  pub same-gets : (xs ys : List X) → ((k : ℕ) → slice_get xs k ≡ slice_get ys k) → xs ≡ ys
  same-gets [] [] same = refl
  same-gets [] (y ∷ ys) same = let e : None ≡ Some y = same 0 in absurd cc
  same-gets (x ∷ xs) [] same = let e : Some x ≡ None = same 0 in absurd cc
  same-gets (x ∷ xs) (y ∷ ys) same =
      let first : x ≡ y = same_Some x y (same 0) in
      rw first (ap (λ (rest : List X). y ∷ rest) (same-gets xs ys (λ k. same (suc k))))

  pub get-set-same : (xs : List X) (i : ℕ) (x : X) → i < length xs → slice_get (slice_set xs i x) i ≡ Some x
  get-set-same [] i x less = absurd (omega arith)
  get-set-same (y ∷ xs) zero x less = refl
  get-set-same (y ∷ xs) (suc i) x less = get-set-same xs i x (omega arith)

  pub get-set-other : (xs : List X) (i j : ℕ) (x : X) → (j ≡ i → ⊥) → slice_get (slice_set xs i x) j ≡ slice_get xs j
  get-set-other [] i j x apart = refl
  get-set-other (y ∷ xs) zero zero x apart = absurd (apart refl)
  get-set-other (y ∷ xs) zero (suc j) x apart = refl
  get-set-other (y ∷ xs) (suc i) zero x apart = refl
  get-set-other (y ∷ xs) (suc i) (suc j) x apart = get-set-other xs i j x (λ is. apart (ap suc is))

  pub get-push-before : (xs : List X) (x : X) (i : ℕ) → i < length xs → slice_get (xs ++ x ∷ []) i ≡ slice_get xs i
  get-push-before [] x i less = absurd (omega arith)
  get-push-before (y ∷ xs) x zero less = refl
  get-push-before (y ∷ xs) x (suc i) less = get-push-before xs x i (omega arith)

  pub get-push-last : (xs : List X) (x : X) → slice_get (xs ++ x ∷ []) (length xs) ≡ Some x
  get-push-last [] x = refl
  get-push-last (y ∷ xs) x = get-push-last xs x

  pub get-take : (xs : List X) (n i : ℕ) → i < n → slice_get (take n xs) i ≡ slice_get xs i
  get-take xs zero i less = absurd (omega arith)
  get-take [] (suc n) i less = refl
  get-take (x ∷ xs) (suc n) zero less = refl
  get-take (x ∷ xs) (suc n) (suc i) less = get-take xs n i (omega arith)

  -- what lies where after the last one was moved into a gap
  pub get-removed-other : (xs : List X) (i j : ℕ) (d : X) → j + 1 < length xs → (j ≡ i → ⊥) → slice_get (swap_remove xs i d) j ≡ slice_get xs j
  get-removed-other xs i j d less apart =
      get-take (slice_set xs i (slice_index_or xs (length xs - 1) d)) (length xs - 1) j (omega arith)
      ∙ get-set-other xs i j (slice_index_or xs (length xs - 1) d) apart

  pub get-removed-gap : (xs : List X) (i : ℕ) (d : X) → i + 1 < length xs → slice_get (swap_remove xs i d) i ≡ slice_get xs (length xs - 1)
  get-removed-gap xs i d less =
      get-take (slice_set xs i (slice_index_or xs (length xs - 1) d)) (length xs - 1) i (omega arith)
      ∙ get-set-same xs i (slice_index_or xs (length xs - 1) d) (omega arith)
      ∙ sym (slice_get-get_or xs (length xs - 1) d (omega arith))

  pub length-removed : (xs : List X) (i : ℕ) (d : X) → length (swap_remove xs i d) ≡ length xs - 1
  length-removed xs i d =
      omega (arith, length-take (length xs - 1) (slice_set xs i (slice_index_or xs (length xs - 1) d)), length-set xs i (slice_index_or xs (length xs - 1) d))

  pub get-removed-within : (xs : List X) (i j : ℕ) (d x : X) → slice_get (swap_remove xs i d) j ≡ Some x → j + 1 < length xs
  get-removed-within xs i j d x at =
      omega (arith, slice_get_within (swap_remove xs i d) j x at, length-removed xs i d)

module _ {X Y : Type 0} where
  pub map-agree : (f g : X → Y) (xs : List X) → ((k : ℕ) (x : X) → slice_get xs k ≡ Some x → f x ≡ g x) → map f xs ≡ map g xs
  map-agree f g [] same = refl
  map-agree f g (x ∷ xs) same =
      let first : f x ≡ g x = same 0 x refl in
      rw first (ap (λ (rest : List Y). g x ∷ rest) (map-agree f g xs (λ k y at. same (suc k) y at)))

-- the place of an id is one
one-place : (index : List ℕ) (id p q : ℕ) → slice_get index id ≡ Some p → slice_get index id ≡ Some q → p ≡ q
one-place index id p q at there = same_Some p q (sym at ∙ there)

module _ {T : Type 0} where
  -- no item lies past the last one
  pub item-past : (live : List (ℕ × T)) (place : ℕ) → length live ≤ place → item_in live place ≡ None
  item-past live place past = ap (option_map (λ (pair : ℕ × T). pair.1)) (slice_get_past live place past)

  pub item-at : (live : List (ℕ × T)) (place id : ℕ) (item : T) → ◌≡◌ {A = Option (ℕ × T)} (slice_get live place) (Some (id, item)) → item_in live place ≡ Some item
  item-at live place id item at = ap (option_map (λ (pair : ℕ × T). pair.1)) at

  -- an id's slot by the index
  pub slot-at : (live : List (ℕ × T)) (index : List ℕ) (id : ℕ) → slice_index_or (slots_of live index) id None ≡ option_and_then (item_in live) (slice_get index id)
  slot-at live [] id = refl
  slot-at live (place ∷ index) zero = refl
  slot-at live (place ∷ index) (suc id) = slot-at live index id

  -- as many items live as ids were given out at most
  pub fewer : (live : List (ℕ × T)) (index : List ℕ) → IsDense live index → length live ≤ length index
  fewer live index dense =
      omega (arith, dense.counted, count_by-le-length is_some (slots_of live index), length-map index (item_in live))

  -- nowhere is past the last item
  pub none-nowhere : (live : List (ℕ × T)) (index : List ℕ) → IsDense live index → item_in live nowhere ≡ None
  none-nowhere live index dense = item-past live nowhere (omega (arith, fewer live index dense, dense.fits))

  -- a live id was given out
  pub live-given : (live : List (ℕ × T)) (index : List ℕ) (id : ℕ) → IsSome (slice_index_or (slots_of live index) id None) → id < length index
  live-given live index id there =
      ⊎_elim (λ less. less)
      (λ past. let none : slice_index_or (slots_of live index) id None ≡ None = get_or_past (slots_of live index) id None (omega (arith, length-map index (item_in live))) in absurd cc)
      (cases_lt id (length index))

  -- a live id has the place of its item
  pub live-placed : (live : List (ℕ × T)) (index : List ℕ) (id place : ℕ) → IsDense live index → slice_get index id ≡ Some place
      → IsSome (slice_index_or (slots_of live index) id None) → (item : T) × (slice_get live place ≡ Some (id, item))
  live-placed live index id place dense at there =
      ⊎_elim
      (λ none.
      let gone : item_in live place ≡ None = ap (item_in live) none ∙ none-nowhere live index dense in
      let slot : slice_index_or (slots_of live index) id None ≡ None = slot-at live index id ∙ ap (option_and_then (item_in live)) at ∙ gone in
      absurd cc)
      (λ found. found)
      (dense.found id place at)

  -- lists of slots are one where the same places are found in them
  slots-by : (live : List (ℕ × T)) (index : List ℕ) (slots : List (Option T))
      → ((k : ℕ) → option_map (item_in live) (slice_get index k) ≡ slice_get slots k) → slots_of live index ≡ slots
  slots-by live index slots same =
      same-gets (slots_of live index) slots (λ k. slice_get-map (item_in live) index k ∙ same k)

  -- the id of the pair at a place is one
  one-id : (live : List (ℕ × T)) (place id other : ℕ) (x y : T) → ◌≡◌ {A = Option (ℕ × T)} (slice_get live place) (Some (id, x))
      → ◌≡◌ {A = Option (ℕ × T)} (slice_get live place) (Some (other, y)) → (id ≡ other) × (x ≡ y)
  one-id live place id other x y at there = some_pair_parts id other x y (sym at ∙ there)

  -- a slot that holds an item adds one to their count
  abbrev counts : Option T → ℕ
  counts slot = cond (is_some slot) 1 0

  module _ (live : List (ℕ × T)) (index : List ℕ) (dense : IsDense live index) where
    -- an item lies at one id's place
    one-key : (k place id : ℕ) (item : T) → slice_get index k ≡ Some place → ◌≡◌ {A = Option (ℕ × T)} (slice_get live place) (Some (id, item)) → k ≡ id
    one-key k place id item there at =
        ⊎_elim
        (λ none. absurd (omega (arith, slice_get_within live place (id, item) at, fewer live index dense, dense.fits)))
        (λ found. (one-id live place k id found.0 item found.1 at).0)
        (dense.found k place there)

    -- the slot of an item's id
    pub slot-here : (place id : ℕ) (item : T) → ◌≡◌ {A = Option (ℕ × T)} (slice_get live place) (Some (id, item)) → slice_index_or (slots_of live index) id None ≡ Some item
    slot-here place id item at =
        slot-at live index id ∙ ap (option_and_then (item_in live)) (dense.placed place id item at) ∙ item-at live place id item at

    module _ (place id : ℕ) (old new : T) (at : ◌≡◌ {A = Option (ℕ × T)} (slice_get live place) (Some (id, old))) where
      -- the list after a write to an item
      abbrev pub written : List (ℕ × T)
      written = slice_set live place (id, new)

      written-here : ◌≡◌ {A = Option (ℕ × T)} (slice_get written place) (Some (id, new))
      written-here = get-set-same live place (id, new) (slice_get_within live place (id, old) at)

      written-placed : (p k : ℕ) (y : T) → ◌≡◌ {A = Option (ℕ × T)} (slice_get written p) (Some (k, y)) → slice_get index k ≡ Some p
      written-placed p k y there =
          ⊎_elim
          (λ is.
          let here : ◌≡◌ {A = Option (ℕ × T)} (slice_get written place) (Some (k, y)) = ap (slice_get written) (sym is) ∙ there in
          let same = one-id written place id k new y written-here here in
          ap (slice_get index) (sym same.0) ∙ dense.placed place id old at ∙ ap Some (sym is))
          (λ apart. dense.placed p k y (sym (get-set-other live place p (id, new) apart) ∙ there))
          (cases_eq p place)

      written-found : (k p : ℕ) → slice_get index k ≡ Some p → (p ≡ nowhere) ⊎ ((item : T) × (◌≡◌ {A = Option (ℕ × T)} (slice_get written p) (Some (k, item))))
      written-found k p there =
          ⊎_elim
          (λ none. inl none)
          (λ found. ⊎_elim
          (λ is.
          let here : ◌≡◌ {A = Option (ℕ × T)} (slice_get live place) (Some (k, found.0)) = ap (slice_get live) (sym is) ∙ found.1 in
          let same = one-id live place id k old found.0 at here in
          inr (new, ap (slice_get written) is ∙ written-here ∙ ap (λ (i : ℕ). let e : ℕ × T = (i, new) in Some e) same.0))
          (λ apart. inr (found.0, get-set-other live place p (id, new) apart ∙ found.1))
          (cases_eq p place))
          (dense.found k p there)

      -- an item at another place is as it was
      written-other : (p : ℕ) → (p ≡ place → ⊥) → item_in written p ≡ item_in live p
      written-other p apart = ap (option_map (λ (pair : ℕ × T). pair.1)) (get-set-other live place p (id, new) apart)

      written-apart : (k : ℕ) → (k ≡ id → ⊥) → (o : Option ℕ) → slice_get index k ≡ o → option_map (item_in written) o ≡ option_map (item_in live) o
      written-apart k apart None is = refl
      written-apart k apart (Some p) is =
          ap Some (written-other p (λ same. apart (one-key k place id old (is ∙ ap Some same) at)))

      written-slot : (k : ℕ) → option_map (item_in written) (slice_get index k) ≡ slice_get (slice_set (slots_of live index) id (Some new)) k
      written-slot k =
          ⊎_elim
          (λ is.
          let there : slice_get index k ≡ Some place = ap (slice_get index) is ∙ dense.placed place id old at in
          let within : id < length index = slice_get_within index id place (dense.placed place id old at) in
          ap (option_map (item_in written)) there ∙ ap Some (item-at written place id new written-here)
          ∙ sym (ap (slice_get (slice_set (slots_of live index) id (Some new))) is
          ∙ get-set-same (slots_of live index) id (Some new) (omega (arith, length-map index (item_in live)))))
          (λ apart.
          written-apart k apart (slice_get index k) refl
          ∙ sym (slice_get-map (item_in live) index k)
          ∙ sym (get-set-other (slots_of live index) id k (Some new) apart))
          (cases_eq k id)

      -- a write to an item writes to its id's slot
      pub written-slots : slots_of written index ≡ slice_set (slots_of live index) id (Some new)
      written-slots = slots-by written index (slice_set (slots_of live index) id (Some new)) written-slot

      written-counted : length written ≡ count_by is_some (slots_of written index)
      written-counted =
          let within : id < length (slots_of live index) = omega (arith, slice_get_within index id place (dense.placed place id old at), length-map index (item_in live)) in
          let sums = sum_by-set counts (slots_of live index) id (Some new) None within in
          let was : counts (slice_index_or (slots_of live index) id None) ≡ 1 = ap counts (slot-here place id old at) in
          let now = ap (λ (slots : List (Option T)). count_by is_some slots) written-slots in
          omega (arith, sums, was, now, dense.counted, length-set live place (id, new))

      pub written-dense : IsDense written index
      written-dense = record { placed = written-placed; found = written-found; counted = written-counted; fits = dense.fits }

    module _ (item : T) (few : length index < nowhere) where
      -- the two lists after an add
      abbrev pub more-live : List (ℕ × T)
      more-live = live ++ (length index, item) ∷ []

      abbrev pub more-index : List ℕ
      more-index = index ++ length live ∷ []

      pushed-length : length more-live ≡ length live + 1
      pushed-length = omega (arith, length-append live ((length index, item) ∷ []))

      pushed-before : (p k : ℕ) (y : T) → ◌≡◌ {A = Option (ℕ × T)} (slice_get live p) (Some (k, y)) → ◌≡◌ {A = Option (ℕ × T)} (slice_get more-live p) (Some (k, y))
      pushed-before p k y at = get-push-before live (length index, item) p (slice_get_within live p (k, y) at) ∙ at

      pushed-placed : (p k : ℕ) (y : T) → ◌≡◌ {A = Option (ℕ × T)} (slice_get more-live p) (Some (k, y)) → slice_get more-index k ≡ Some p
      pushed-placed p k y there =
          ⊎_elim
          (λ less.
          let old = dense.placed p k y (sym (get-push-before live (length index, item) p less) ∙ there) in
          get-push-before index (length live) k (slice_get_within index k p old) ∙ old)
          (λ past.
          let is : p ≡ length live = omega (arith, slice_get_within more-live p (k, y) there, pushed-length) in
          let last : ◌≡◌ {A = Option (ℕ × T)} (slice_get more-live p) (Some (length index, item)) = ap (slice_get more-live) is ∙ get-push-last live (length index, item) in
          let same = one-id more-live p k (length index) y item there last in
          ap (slice_get more-index) same.0 ∙ get-push-last index (length live) ∙ ap Some (sym is))
          (cases_lt p (length live))

      pushed-found : (k p : ℕ) → slice_get more-index k ≡ Some p → (p ≡ nowhere) ⊎ ((x : T) × (◌≡◌ {A = Option (ℕ × T)} (slice_get more-live p) (Some (k, x))))
      pushed-found k p there =
          ⊎_elim
          (λ less. ⊎_elim
          (λ none. inl none)
          (λ found. inr (found.0, pushed-before p k found.0 found.1))
          (dense.found k p (sym (get-push-before index (length live) k less) ∙ there)))
          (λ past.
          let is : k ≡ length index = omega (arith, slice_get_within more-index k p there, length-append index (length live ∷ [])) in
          let last : slice_get more-index k ≡ Some (length live) = ap (slice_get more-index) is ∙ get-push-last index (length live) in
          let place : p ≡ length live = one-place more-index k p (length live) there last in
          inr (item, ap (slice_get more-live) place ∙ get-push-last live (length index, item) ∙ ap (λ (i : ℕ). let e : ℕ × T = (i, item) in Some e) (sym is)))
          (cases_lt k (length index))

      pushed-agree : (k p : ℕ) → slice_get index k ≡ Some p → item_in more-live p ≡ item_in live p
      pushed-agree k p there =
          ⊎_elim
          (λ none. item-past more-live p (omega (arith, pushed-length, fewer live index dense)) ∙ sym (item-past live p (omega (arith, fewer live index dense))))
          (λ found. item-at more-live p k found.0 (pushed-before p k found.0 found.1) ∙ sym (item-at live p k found.0 found.1))
          (dense.found k p there)

      -- an add adds a slot
      pub pushed-slots : slots_of more-live more-index ≡ slots_of live index ++ Some item ∷ []
      pushed-slots =
          let last : item_in more-live (length live) ≡ Some item = item-at more-live (length live) (length index) item (get-push-last live (length index, item)) in
          map-append (item_in more-live) index (length live ∷ [])
          ∙ ap (λ (front : List (Option T)). front ++ item_in more-live (length live) ∷ []) (map-agree (item_in more-live) (item_in live) index pushed-agree)
          ∙ ap (λ (slot : Option T). slots_of live index ++ slot ∷ []) last

      pub pushed-dense : IsDense more-live more-index
      pushed-dense = record {
        placed = pushed-placed;
        found = pushed-found;
        counted =
            let now = ap (λ (slots : List (Option T)). count_by is_some slots) pushed-slots in
            omega (arith, now, sum_by_push counts (slots_of live index) (Some item), dense.counted, pushed-length);
        fits = omega (arith, length-append index (length live ∷ []));
      }

    module _ (place id moved : ℕ) (item last : T)
        (at : ◌≡◌ {A = Option (ℕ × T)} (slice_get live place) (Some (id, item)))
        (end : ◌≡◌ {A = Option (ℕ × T)} (slice_get live (length live - 1)) (Some (moved, last)))
        (gap : ℕ × T) where
      -- the two lists after an item was taken out, and the last one moved into its place
      abbrev pub less-live : List (ℕ × T)
      less-live = swap_remove live place gap

      abbrev pub less-index : List ℕ
      less-index = slice_set (slice_set index moved place) id nowhere

      taken-within : place < length live
      taken-within = slice_get_within live place (id, item) at

      taken-given : id < length index
      taken-given = slice_get_within index id place (dense.placed place id item at)

      moved-given : moved < length index
      moved-given = slice_get_within index moved (length live - 1) (dense.placed (length live - 1) moved last end)

      -- what has another id than the last one's isn't the last one
      taken-before : (p k : ℕ) (y : T) → ◌≡◌ {A = Option (ℕ × T)} (slice_get live p) (Some (k, y)) → (k ≡ moved → ⊥) → p + 1 < length live
      taken-before p k y there apart =
          ⊎_elim
          (λ less. less)
          (λ past.
          let is : p ≡ length live - 1 = omega (arith, slice_get_within live p (k, y) there) in
          let here : ◌≡◌ {A = Option (ℕ × T)} (slice_get live p) (Some (moved, last)) = ap (slice_get live) is ∙ end in
          absurd (apart (one-id live p k moved y last there here).0))
          (cases_lt (p + 1) (length live))

      -- an item of another id than the two stays
      taken-stays : (p k : ℕ) (y : T) → ◌≡◌ {A = Option (ℕ × T)} (slice_get live p) (Some (k, y)) → (k ≡ id → ⊥) → (k ≡ moved → ⊥)
          → ◌≡◌ {A = Option (ℕ × T)} (slice_get less-live p) (Some (k, y))
      taken-stays p k y there not_id not_moved =
          get-removed-other live place p gap (taken-before p k y there not_moved) (λ is. not_id ((one-id live p k id y item there (ap (slice_get live) is ∙ at)).0))
          ∙ there

      -- the last item is moved, where it isn't the one taken
      taken-moves : (moved ≡ id → ⊥) → ◌≡◌ {A = Option (ℕ × T)} (slice_get less-live place) (Some (moved, last))
      taken-moves apart =
          get-removed-gap live place gap (taken-before place id item at (λ is. apart (sym is))) ∙ end

      index-here : slice_get less-index id ≡ Some nowhere
      index-here = get-set-same (slice_set index moved place) id nowhere (omega (arith, taken-given, length-set index moved place))

      index-moved : (moved ≡ id → ⊥) → slice_get less-index moved ≡ Some place
      index-moved apart = get-set-other (slice_set index moved place) id moved nowhere apart ∙ get-set-same index moved place moved-given

      index-other : (k : ℕ) → (k ≡ id → ⊥) → (k ≡ moved → ⊥) → slice_get less-index k ≡ slice_get index k
      index-other k not_id not_moved = get-set-other (slice_set index moved place) id k nowhere not_id ∙ get-set-other index moved k place not_moved

      taken-placed : (p k : ℕ) (y : T) → ◌≡◌ {A = Option (ℕ × T)} (slice_get less-live p) (Some (k, y)) → slice_get less-index k ≡ Some p
      taken-placed p k y there =
          let within : p + 1 < length live = get-removed-within live place p gap (k, y) there in
          ⊎_elim
          (λ is.
          let here : ◌≡◌ {A = Option (ℕ × T)} (slice_get less-live place) (Some (k, y)) = ap (slice_get less-live) (sym is) ∙ there in
          let gone : ◌≡◌ {A = Option (ℕ × T)} (slice_get less-live place) (Some (moved, last)) = get-removed-gap live place gap (omega (arith, is)) ∙ end in
          let same = one-id less-live place k moved y last here gone in
          let apart : moved ≡ id → ⊥ = λ e.
          let first : place ≡ length live - 1 = one-place index id place (length live - 1) (dense.placed place id item at) (ap (slice_get index) (sym e) ∙ dense.placed (length live - 1) moved last end) in
          omega (arith, is, first) in
          ap (slice_get less-index) same.0 ∙ index-moved apart ∙ ap Some (sym is))
          (λ apart.
          let old : ◌≡◌ {A = Option (ℕ × T)} (slice_get live p) (Some (k, y)) = sym (get-removed-other live place p gap within apart) ∙ there in
          let listed : slice_get index k ≡ Some p = dense.placed p k y old in
          index-other k
          (λ is. apart (one-place index id p place (ap (slice_get index) (sym is) ∙ listed) (dense.placed place id item at)))
          (λ is.
          let first : p ≡ length live - 1 = one-place index moved p (length live - 1) (ap (slice_get index) (sym is) ∙ listed) (dense.placed (length live - 1) moved last end) in
          omega (arith, first, within))
          ∙ listed)
          (cases_eq p place)

      taken-found : (k p : ℕ) → slice_get less-index k ≡ Some p → (p ≡ nowhere) ⊎ ((x : T) × (◌≡◌ {A = Option (ℕ × T)} (slice_get less-live p) (Some (k, x))))
      taken-found k p there =
          ⊎_elim
          (λ is. inl (one-place less-index k p nowhere there (ap (slice_get less-index) is ∙ index-here)))
          (λ not_id. ⊎_elim
          (λ is.
          let apart : moved ≡ id → ⊥ = λ e. not_id (is ∙ e) in
          let here : p ≡ place = one-place less-index k p place there (ap (slice_get less-index) is ∙ index-moved apart) in
          inr (last, ap (slice_get less-live) here ∙ taken-moves apart ∙ ap (λ (i : ℕ). let e : ℕ × T = (i, last) in Some e) (sym is)))
          (λ not_moved. ⊎_elim
          (λ none. inl none)
          (λ found. inr (found.0, taken-stays p k found.0 found.1 not_id not_moved))
          (dense.found k p (sym (index-other k not_id not_moved) ∙ there)))
          (cases_eq k moved))
          (cases_eq k id)

      -- nowhere is still past the last item
      taken-nowhere : item_in less-live nowhere ≡ None
      taken-nowhere = item-past less-live nowhere (omega (arith, length-removed live place gap, fewer live index dense, dense.fits))

      taken-apart : (k : ℕ) → (k ≡ id → ⊥) → (k ≡ moved → ⊥) → (o : Option ℕ) → slice_get index k ≡ o
          → option_map (item_in less-live) o ≡ option_map (item_in live) o
      taken-apart k not_id not_moved None is = refl
      taken-apart k not_id not_moved (Some p) is =
          ap Some (⊎_elim
          (λ none. ap (item_in less-live) none ∙ taken-nowhere ∙ sym (ap (item_in live) none ∙ none-nowhere live index dense))
          (λ found. item-at less-live p k found.0 (taken-stays p k found.0 found.1 not_id not_moved) ∙ sym (item-at live p k found.0 found.1))
          (dense.found k p is))

      taken-slot : (k : ℕ) → option_map (item_in less-live) (slice_get less-index k) ≡ slice_get (slice_set (slots_of live index) id None) k
      taken-slot k =
          ⊎_elim
          (λ is.
          ap (option_map (item_in less-live)) (ap (slice_get less-index) is ∙ index-here) ∙ ap Some taken-nowhere
          ∙ sym (ap (slice_get (slice_set (slots_of live index) id None)) is
          ∙ get-set-same (slots_of live index) id None (omega (arith, taken-given, length-map index (item_in live)))))
          (λ not_id. ⊎_elim
          (λ is.
          let apart : moved ≡ id → ⊥ = λ e. not_id (is ∙ e) in
          let old : slice_get (slots_of live index) moved ≡ Some (Some last) =
          slice_get-map (item_in live) index moved ∙ ap (option_map (item_in live)) (dense.placed (length live - 1) moved last end) ∙ ap Some (item-at live (length live - 1) moved last end) in
          ap (option_map (item_in less-live)) (ap (slice_get less-index) is ∙ index-moved apart) ∙ ap Some (item-at less-live place moved last (taken-moves apart))
          ∙ sym (get-set-other (slots_of live index) id k None not_id ∙ ap (slice_get (slots_of live index)) is ∙ old))
          (λ not_moved.
          ap (option_map (item_in less-live)) (index-other k not_id not_moved)
          ∙ taken-apart k not_id not_moved (slice_get index k) refl
          ∙ sym (slice_get-map (item_in live) index k)
          ∙ sym (get-set-other (slots_of live index) id k None not_id))
          (cases_eq k moved))
          (cases_eq k id)

      -- a take leaves its id's slot empty
      pub taken-slots : slots_of less-live less-index ≡ slice_set (slots_of live index) id None
      taken-slots = slots-by less-live less-index (slice_set (slots_of live index) id None) taken-slot

      taken-counted : length less-live ≡ count_by is_some (slots_of less-live less-index)
      taken-counted =
          let within : id < length (slots_of live index) = omega (arith, taken-given, length-map index (item_in live)) in
          let sums = sum_by-set counts (slots_of live index) id None None within in
          let was : counts (slice_index_or (slots_of live index) id None) ≡ 1 = ap counts (slot-here place id item at) in
          let now = ap (λ (slots : List (Option T)). count_by is_some slots) taken-slots in
          omega (arith, sums, was, now, dense.counted, length-removed live place gap, taken-within)

      pub taken-dense : IsDense less-live less-index
      taken-dense = record {
        placed = taken-placed;
        found = taken-found;
        counted = taken-counted;
        fits = omega (arith, dense.fits, length-set (slice_set index moved place) id nowhere, length-set index moved place);
      }

  -- what a live id's place holds
  pub record Placed (live : List (ℕ × T)) (index : List ℕ) (id place : ℕ) : Type 0 where
    pub item : T
    pub at : slice_get live place ≡ Some (id, item)
    pub within : place < length live

  -- a place that was read of a live id is that of its item
  pub placing : (live : List (ℕ × T)) (index : List ℕ) (id place : ℕ) → IsDense live index → IsSome (slice_index_or (slots_of live index) id None)
      → place ≡ slice_index_or index id place → Placed live index id place
  placing live index id place dense there read =
      let at = slice_get_read index (length index) id place refl (live-given live index id there) read in
      let found = live-placed live index id place dense at there in
      record { item = found.0; at = found.1; within = slice_get_within live place (id, found.0) found.1 }

  -- the pair that was read there
  pub pair-there : (live : List (ℕ × T)) (place : ℕ) (pair read : ℕ × T) → slice_get live place ≡ Some pair → read ≡ slice_index_or live place read → read ≡ pair
  pair-there live place pair read at is = is ∙ get_or_from_slice_get live place pair read at

  -- the last pair, by its id
  pub record Last (live : List (ℕ × T)) (moved : ℕ) : Type 0 where
    pub item : T
    pub at : slice_get live (length live - 1) ≡ Some (moved, item)

  pub last-pair : (live : List (ℕ × T)) (moved : ℕ) (d : ℕ × T) → 0 < length live → IfSome (slice_get live (length live - 1)) (λ pair. moved ≡ pair.0) → Last live moved
  last-pair live moved d some says =
      let at : slice_get live (length live - 1) ≡ Some (slice_index_or live (length live - 1) d) = slice_get-get_or live (length live - 1) d (omega arith) in
      let is : moved ≡ (slice_index_or live (length live - 1) d).0 = rw at at says in
      record {
        item = (slice_index_or live (length live - 1) d).1;
        at = at ∙ ap (λ (i : ℕ). let e : ℕ × T = (i, (slice_index_or live (length live - 1) d).1) in Some e) (sym is);
      }
