-- What the words on an arena mean to a reader.
use Rattle.std.specs.Prelude.{◌≡◌, ℕ, ◌<◌, Bool, true, false, Some, length, Contains, MatchOption, ◌↔◌}
use Rattle.std.specs.List.Sorted.{IsStrictlyIncreasing}
use Rattle.walrus_arena.specs.Arena.{Arena, item_at, IsLive, next_id, live_count, entries, ids, lowest_id}

module _ {T : Type 0} where
  -- the entries are the live items, each once, by rising id
  pub record EntriesAreLive (a : Arena T) : Type 0 where
    pub live : (id : ℕ) (item : T) → Contains (entries a) (id, item) ↔ (item_at a id ≡ Some item)
    pub rising : IsStrictlyIncreasing (ids a)
    pub counted : length (entries a) ≡ live_count a

  -- the id has a live item that passes, and no lower id has
  pub record IsLowest (test : T → Bool) (a : Arena T) (id : ℕ) : Type 0 where
    pub item : T
    pub live : item_at a id ≡ Some item
    pub passes : test item ≡ true
    pub lowest : (other : ℕ) (x : T) → other < id → item_at a other ≡ Some x → test x ≡ false

  -- a search answers the lowest live id whose item passes, or nothing where none passes
  abbrev pub FindsLowest : (T → Bool) → Arena T → Type 0
  FindsLowest test a = MatchOption (lowest_id test a)
      ((id : ℕ) (item : T) → item_at a id ≡ Some item → test item ≡ false)
      (IsLowest test a)

  -- a live id was given out before, so the next add doesn't give it again
  abbrev pub LiveIdsAreGivenOut : Arena T → Type 0
  LiveIdsAreGivenOut a = (id : ℕ) → IsLive a id → id < next_id a
