-- What callers need of slots: where an item is after a push or a delete, and what a search through the
-- entries finds.
use Rattle.std.proofs.Common.{◌≡◌, ◌≢◌, ℕ, zero, suc, ◌+◌, ◌<◌, ◌≤◌, Contains, map, filter, slice_index, is_some, Bool, true, false, List, [], ◌∷◌, ◌++◌, length, find, Option, Some, None, slice_index_or, slice_set, refl, sym, ap, arith, ◌∙◌, inl, inr, ◌⊎◌, ⊎_elim, length-append}
use Rattle.std.proofs.lemmas.Bool.{cases_Bool, cases_lt, cases_eq}
use Rattle.std.proofs.lemmas.List.{get_or_past, get_or_push, get_or_append_left, get_or-set_other}
use Rattle.std.proofs.lemmas.Option.{some_pair_parts}
use Rattle.walrus_arena.specs.Arena.{entries_from}

module _ {T : Type 0} where
  -- an item lies at an id that was given out
  pub live-within : (slots : List (Option T)) (id : ℕ) (item : T) → slice_index_or slots id None ≡ Some item → id < length slots
  live-within slots id item at =
      ⊎_elim (λ less. less) (λ past. let none : slice_index_or slots id None ≡ None = get_or_past slots id None past in cc) (cases_lt id (length slots))

  -- an add leaves the items before it
  pub at-kept : (slots : List (Option T)) (slot : Option T) (id : ℕ) → id < length slots → slice_index_or (slots ++ slot ∷ []) id None ≡ slice_index_or slots id None
  at-kept slots slot id less = get_or_append_left slots (slot ∷ []) None id less

  -- an add puts its item at the count of ids given out before
  pub at-last : (slots : List (Option T)) (slot : Option T) (id : ℕ) → length slots ≡ id → slice_index_or (slots ++ slot ∷ []) id None ≡ slot
  at-last slots slot id is = get_or_push slots slot None id is

  -- an item after an add was there before, or is the one added
  pub at-push : (slots : List (Option T)) (added item : T) (id : ℕ) → slice_index_or (slots ++ Some added ∷ []) id None ≡ Some item
      → (slice_index_or slots id None ≡ Some item) ⊎ ((id ≡ length slots) × (item ≡ added))
  at-push slots added item id at =
      ⊎_elim (λ less. inl (sym (at-kept slots (Some added) id less) ∙ at))
      (λ past. ⊎_elim
      (λ is. let last : slice_index_or (slots ++ Some added ∷ []) id None ≡ Some added = at-last slots (Some added) id (sym is) in inr (is, cc))
      (λ apart. let none : slice_index_or (slots ++ Some added ∷ []) id None ≡ None = get_or_past (slots ++ Some added ∷ []) id None (omega (arith, length-append slots (Some added ∷ []))) in absurd cc)
      (cases_eq id (length slots)))
      (cases_lt id (length slots))

  -- a delete leaves the other items
  pub at-other : (slots : List (Option T)) (slot : Option T) (id other : ℕ) → other ≢ id → slice_index_or (slice_set slots id slot) other None ≡ slice_index_or slots other None
  at-other slots slot id other apart = get_or-set_other slots id other slot None apart

  -- an item after a delete was there before, at another id
  pub at-deleted : (slots : List (Option T)) (id other : ℕ) (item : T) → slice_index_or (slice_set slots id None) other None ≡ Some item
      → (slice_index_or slots other None ≡ Some item) × (other ≢ id)
  at-deleted [] id other item at = absurd cc
  at-deleted (s ∷ slots) zero zero item at = absurd cc
  at-deleted (s ∷ slots) zero (suc other) item at = (at, λ is. omega arith)
  at-deleted (s ∷ slots) (suc id) zero item at = (at, λ is. omega arith)
  at-deleted (s ∷ slots) (suc id) (suc other) item at = let rest = at-deleted slots id other item at in (rest.0, λ is. rest.1 (omega arith))

  -- the entries after an add are those before it, and the one added
  pub entries_from-push : (id : ℕ) (slots : List (Option T)) (item : T) (last : ℕ) → id + length slots ≡ last
      → entries_from id (slots ++ Some item ∷ []) ≡ entries_from id slots ++ (last, item) ∷ []
  entries_from-push id [] item last is = let e : id ≡ last = omega arith in rw e refl
  entries_from-push id (None ∷ rest) item last is = entries_from-push (id + 1) rest item last (omega arith)
  entries_from-push id (Some first ∷ rest) item last is = ap (λ (es : List (ℕ × T)). (id, first) ∷ es) (entries_from-push (id + 1) rest item last (omega arith))

  -- a search finds nothing where no item passes
  pub find-none : (test : T → Bool) (id : ℕ) (slots : List (Option T))
      → ((i : ℕ) (item : T) → slice_index_or slots i None ≡ Some item → test item ≡ false)
      → find (λ (e : ℕ × T). test e.1) (entries_from id slots) ≡ None
  find-none test id [] fails = refl
  find-none test id (None ∷ rest) fails = find-none test (id + 1) rest (λ i item at. fails (suc i) item at)
  find-none test id (Some first ∷ rest) fails =
      rw (fails 0 first refl) (find-none test (id + 1) rest (λ i item at. fails (suc i) item at))

  -- a search finds the lowest item that passes
  pub find-lowest : (test : T → Bool) (id : ℕ) (slots : List (Option T)) (i : ℕ) (item : T) (found : ℕ)
      → slice_index_or slots i None ≡ Some item → test item ≡ true
      → ((j : ℕ) (other : T) → slice_index_or slots j None ≡ Some other → test other ≡ true → i ≤ j)
      → id + i ≡ found
      → find (λ (e : ℕ × T). test e.1) (entries_from id slots) ≡ Some (found, item)
  find-lowest test id [] i item found at passes lowest is = absurd cc
  find-lowest test id (None ∷ rest) zero item found at passes lowest is = absurd cc
  find-lowest test id (None ∷ rest) (suc i) item found at passes lowest is =
      find-lowest test (id + 1) rest i item found at passes (λ j other there ok. let h = lowest (suc j) other there ok in omega arith) (omega arith)
  find-lowest test id (Some first ∷ rest) zero item found at passes lowest is =
      let same : first ≡ item = cc in
      let here : id ≡ found = omega arith in
      rw (same, passes, here) refl
  find-lowest test id (Some first ∷ rest) (suc i) item found at passes lowest is =
      ⊎_elim
      (λ ok. let h = lowest 0 first refl ok in absurd (omega arith))
      (λ no_match. rw no_match (find-lowest test (id + 1) rest i item found at passes (λ j other there ok. let h = lowest (suc j) other there ok in omega arith) (omega arith)))
      (cases_Bool (test first))

  -- each entry is a live item
  pub entry-live : (first : ℕ) (slots : List (Option T)) (k : ℕ) (d : ℕ × T) → k < length (entries_from first slots)
      → (i : ℕ) × (first + i ≡ (slice_index_or (entries_from first slots) k d).0) × (slice_index_or slots i None ≡ Some (slice_index_or (entries_from first slots) k d).1)
  entry-live first [] k d less = absurd (omega arith)
  entry-live first (None ∷ rest) k d less = let h = entry-live (first + 1) rest k d less in (suc h.0, omega (arith, h.1), h.2)
  entry-live first (Some item ∷ rest) zero d less = (0, omega arith, refl)
  entry-live first (Some item ∷ rest) (suc k) d less = let h = entry-live (first + 1) rest k d (omega arith) in (suc h.0, omega (arith, h.1), h.2)

  -- each live item is an entry
  pub live-entry : (first : ℕ) (slots : List (Option T)) (i : ℕ) (item : T) (id : ℕ) → slice_index_or slots i None ≡ Some item → first + i ≡ id
      → Contains (entries_from first slots) (id, item)
  live-entry first [] i item id at is = absurd cc
  live-entry first (None ∷ rest) zero item id at is = absurd cc
  live-entry first (None ∷ rest) (suc i) item id at is = live-entry (first + 1) rest i item id at (omega arith)
  live-entry first (Some here ∷ rest) zero item id at is =
      let e : first ≡ id = omega arith in
      let same : here ≡ item = cc in
      (0, omega arith, rw (e, same) refl)
  live-entry first (Some here ∷ rest) (suc i) item id at is =
      let h = live-entry (first + 1) rest i item id at (omega arith) in (suc h.0, omega (arith, h.1), h.2)

  -- the ids of these slots are at least the first slot's
  pub ids-least : (first : ℕ) (slots : List (Option T)) (k : ℕ) → k < length (map (λ (e : ℕ × T). e.0) (entries_from first slots))
      → first ≤ slice_index (map (λ (e : ℕ × T). e.0) (entries_from first slots)) k
  ids-least first [] k less = absurd (omega arith)
  ids-least first (None ∷ rest) k less = let h = ids-least (first + 1) rest k less in omega arith
  ids-least first (Some item ∷ rest) zero less = omega arith
  ids-least first (Some item ∷ rest) (suc k) less = let h = ids-least (first + 1) rest k (omega arith) in omega arith

  -- the ids rise
  pub ids-rise : (first : ℕ) (slots : List (Option T)) (k j : ℕ) → k + 1 ≡ j → j < length (map (λ (e : ℕ × T). e.0) (entries_from first slots))
      → slice_index (map (λ (e : ℕ × T). e.0) (entries_from first slots)) k < slice_index (map (λ (e : ℕ × T). e.0) (entries_from first slots)) j
  ids-rise first [] k j is less = absurd (omega arith)
  ids-rise first (None ∷ rest) k j is less = ids-rise (first + 1) rest k j is less
  ids-rise first (Some item ∷ rest) k zero is less = absurd (omega arith)
  ids-rise first (Some item ∷ rest) zero (suc j) is less = let h = ids-least (first + 1) rest j (omega arith) in omega arith
  ids-rise first (Some item ∷ rest) (suc k) (suc j) is less = ids-rise (first + 1) rest k j (omega arith) (omega arith)

  -- there are as many entries as filled slots
  pub entries-counted : (first : ℕ) (slots : List (Option T)) → length (entries_from first slots) ≡ length (filter is_some slots)
  entries-counted first [] = refl
  entries-counted first (None ∷ rest) = entries-counted (first + 1) rest
  entries-counted first (Some item ∷ rest) = ap (λ (n : ℕ). suc n) (entries-counted (first + 1) rest)

  -- a search takes an item that passes, and goes on after one that fails
  find-here : (test : T → Bool) (first : ℕ) (here : T) (rest : List (Option T)) → test here ≡ true
      → find (λ (e : ℕ × T). test e.1) (entries_from first (Some here ∷ rest)) ≡ Some (first, here)
  find-here test first here rest passes = rw passes refl

  find-later : (test : T → Bool) (first : ℕ) (here : T) (rest : List (Option T)) → test here ≡ false
      → find (λ (e : ℕ × T). test e.1) (entries_from first (Some here ∷ rest)) ≡ find (λ (e : ℕ × T). test e.1) (entries_from (first + 1) rest)
  find-later test first here rest fails = rw fails refl

  -- where a search finds nothing, no item passes
  pub find-is-none : (test : T → Bool) (first : ℕ) (slots : List (Option T)) → find (λ (e : ℕ × T). test e.1) (entries_from first slots) ≡ None
      → (i : ℕ) (item : T) → slice_index_or slots i None ≡ Some item → test item ≡ false
  find-is-none test first [] none i item at = absurd cc
  find-is-none test first (None ∷ rest) none zero item at = absurd cc
  find-is-none test first (None ∷ rest) none (suc i) item at = find-is-none test (first + 1) rest none i item at
  find-is-none test first (Some here ∷ rest) none i item at =
      ⊎_elim
      (λ passes. let found = find-here test first here rest passes in absurd cc)
      (λ fails. let later = sym (find-later test first here rest fails) ∙ none in
      elim i as (λ j. slice_index_or (Some here ∷ rest) j None ≡ Some item → test item ≡ false) [
        | zero ↦ λ e. let same : here ≡ item = cc in ap test (sym same) ∙ fails
        | suc j ↦ λ e. find-is-none test (first + 1) rest later j item e
      ] at)
      (cases_Bool (test here))

  -- what a search finds is a live item that passes, and none below it does
  pub find-is-some : (test : T → Bool) (first : ℕ) (slots : List (Option T)) (id : ℕ) (item : T)
      → find (λ (e : ℕ × T). test e.1) (entries_from first slots) ≡ Some (id, item)
      → (i : ℕ) × (first + i ≡ id) × (slice_index_or slots i None ≡ Some item) × (test item ≡ true)
      × ((j : ℕ) (other : T) → j < i → slice_index_or slots j None ≡ Some other → test other ≡ false)
  find-is-some test first [] id item found = absurd cc
  find-is-some test first (None ∷ rest) id item found =
      let h = find-is-some test (first + 1) rest id item found in (
        suc h.0,
        omega (arith, h.1),
        h.2,
        h.3,
        λ j other less at.
            elim j as (λ k. k < suc h.0 → slice_index_or (None ∷ rest) k None ≡ Some other → test other ≡ false) [
              | zero ↦ λ l e. absurd cc
              | suc k ↦ λ l e. h.4 k other (omega arith) e
            ] less at,
      )
  find-is-some test first (Some here ∷ rest) id item found =
      ⊎_elim
      (λ passes.
      let parts = some_pair_parts first id here item (sym (find-here test first here rest passes) ∙ found) in
      (0, omega (arith, parts.0), ap Some parts.1, ap test (sym parts.1) ∙ passes, λ j other less at. absurd (omega arith)))
      (λ fails.
      let later = sym (find-later test first here rest fails) ∙ found in
      let h = find-is-some test (first + 1) rest id item later in (
        suc h.0,
        omega (arith, h.1),
        h.2,
        h.3,
        λ j other less at.
            elim j as (λ k. k < suc h.0 → slice_index_or (Some here ∷ rest) k None ≡ Some other → test other ≡ false) [
              | zero ↦ λ l e. let is : here ≡ other = cc in ap test (sym is) ∙ fails
              | suc k ↦ λ l e. h.4 k other (omega arith) e
            ] less at,
      ))
      (cases_Bool (test here))
