-- Slots of a module that are filled with what was read of a file.
use Rattle.std.specs.Prelude.{ℕ, zero, suc, ◌+◌, ◌≡◌, ◌<◌, List, [], ◌∷◌, ◌++◌, length, take, map, Option, Some, None, Result, Err, OnErr, slice_index_or, refl}
use Rattle.std.specs.Option.{option_map}
use Rattle.std.specs.HashSet.{keys}
use Rattle.std.proofs.Common.{ap, sym, ◌∙◌, subst, arith}
use Rattle.std.proofs.lemmas.List.{append_assoc, append-nil, length-append}
use Rattle.walrus_arena.specs.Arena.{Arena}
use Rattle.walrus_collections.specs.walrus_module_items.declared.memory.Memory.{Memory}
use Rattle.walrus_known_sections.specs.declared.items.Memory.{Memory as ReadMemory}
use Rattle.walrus_known_sections.specs.Items.{memory_of}
use Rattle.walrus_collections.specs.walrus_module_items.Words.{own_memory}

module _ {X Y : Type 0} (R : ℕ → X → Y → Type 0) where
  -- as many filled slots, each with what an item became; the first one is this slot
  abbrev pub Become : List X → List (Option Y) → ℕ → Type 0
  Become [] [] slot = Unit {0}
  Become (x ∷ xs) (Some y ∷ ys) slot = R slot x y × Become xs ys (suc slot)
  Become _ _ slot = ⊥

  -- they stand behind the slots that were there
  pub record Filled (xs : List X) (old new : List (Option Y)) : Type 0 where
    pub more : List (Option Y)
    pub behind : new ≡ old ++ more
    pub become : Become xs more (length old)

  -- only the first ones do
  abbrev pub FilledInPart : List X → List (Option Y) → List (Option Y) → Type 0
  FilledInPart xs old new = (n : ℕ) × Filled (take n xs) old new

  -- Lemmas
  pub filled_none : (old : List (Option Y)) → Filled [] old old
  filled_none old = record { more = []; behind = sym (append-nil old); become = tt }

  become_on : (xs : List X) (i : ℕ) (other : X) (ys : List (Option Y)) (y : Y) (first slot : ℕ) → slot ≡ first + length ys → i < length xs → Become (take i xs) ys first → R slot (slice_index_or xs i other) y
      → Become (take (suc i) xs) (ys ++ Some y ∷ []) first
  become_on [] i other ys y first slot is lt so h = absurd (omega (arith, lt))
  become_on (x ∷ xs) zero other [] y first slot is lt so h = (subst (λ (n : ℕ). R n x y) (omega (arith, is)) h, tt)
  become_on (x ∷ xs) zero other (Some z ∷ ys) y first slot is lt so h = absurd so
  become_on (x ∷ xs) zero other (None ∷ ys) y first slot is lt so h = absurd so
  become_on (x ∷ xs) (suc i) other [] y first slot is lt so h = absurd so
  become_on (x ∷ xs) (suc i) other (None ∷ ys) y first slot is lt so h = absurd so
  become_on (x ∷ xs) (suc i) other (Some z ∷ ys) y first slot is lt so h = (so.0, become_on xs i other ys y (suc first) slot (omega (arith, is)) (omega (arith, lt)) so.1 h)

  pub filled_on : (xs : List X) (i : ℕ) (other now : X) (old mid new : List (Option Y)) (y : Y) → now ≡ slice_index_or xs i other → i < length xs → Filled (take i xs) old mid
      → R (length mid) now y → new ≡ mid ++ Some y ∷ [] → Filled (take (i + 1) xs) old new
  filled_on xs i other now old mid new y is lt so h same =
      let one : i + 1 ≡ suc i = omega arith in
      let slot : length mid ≡ length old + length so.more = ap length so.behind ∙ length-append old so.more in record {
        more = so.more ++ Some y ∷ [];
        behind = same ∙ ap (λ (l : List (Option Y)). l ++ Some y ∷ []) so.behind ∙ append_assoc old so.more (Some y ∷ []);
        become = rw one (become_on xs i other so.more y (length old) (length mid) slot lt so.become (subst (λ (x : X). R (length mid) x y) is h));
      }

  -- a loop ends at an item that is refused
  pub filled_so_far : {T E : Type 0} (xs : List X) (i : ℕ) (old mid new : Arena Y) (result : Result T E) (d : E) → result ≡ Err d → new ≡ mid → Filled (take i xs) old.slots mid.slots → OnErr result (FilledInPart xs old.slots new.slots)
  filled_so_far xs i old mid new result d refused same so = rw (refused, same) (i, so)

  -- what fills the slots is seen as what was read is
  pub filled_seen : {Z : Type 0} (read : X → Z) (see : Y → Z) → ((slot : ℕ) (x : X) (y : Y) → R slot x y → see y ≡ read x) → (xs : List X) (ys : List (Option Y)) (first : ℕ) → Become xs ys first
      → map (option_map see) ys ≡ map (λ x. Some (read x)) xs
  filled_seen read see same [] [] first h = refl
  filled_seen read see same [] (y ∷ ys) first h = absurd h
  filled_seen read see same (x ∷ xs) [] first h = absurd h
  filled_seen read see same (x ∷ xs) (None ∷ ys) first h = absurd h
  filled_seen {Z} read see same (x ∷ xs) (Some y ∷ ys) first h =
      ap (λ (z : Z). Some z ∷ map (option_map see) ys) (same first x y h.0) ∙ ap (λ (l : List (Option Z)). Some (read x) ∷ l) (filled_seen read see same xs ys (suc first) h.1)

-- ---- the spaces

-- the memory means what was read of it, and has its slot for its id; no segment is active in it but those that name it
pub record IsMemoryOf (slot : ℕ) (m : ReadMemory) (y : Memory) : Type 0 where
  pub id : y.id ≡ slot
  pub meant : own_memory y ≡ memory_of m
  pub no_segments : keys y.data_segments ≡ []
  pub no_name : y.name ≡ None
