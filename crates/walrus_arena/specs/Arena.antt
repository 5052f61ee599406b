-- What a contract sees of an arena: the items by id, and how many more adds can't be refused.
use Rattle.std.specs.Prelude.{ℕ, ◌+◌, Bool, List, [], ◌∷◌, length, map, find, count_by, Option, Some, None, is_some, IsSome, slice_index_or, slice_set, refl}
use Rattle.std.specs.Option.{option_map}
use Rattle.std.specs.Coded.{Coded, code_by, coded×, coded_ℕ, coded_list, coded_option}

-- `slots` has, for each id ever given out, the item while it lives; so many more adds as `room` says
-- can't be refused
pub record Arena (T : Type 0) : Type 0 where
  pub slots : List (Option T)
  pub room : ℕ

-- an arena is stored as the pair of its fields
abbrev pub arena_code : {T : Type 0} → Coded T → Coded (Arena T)
arena_code {T} code =
    code_by (List (Option T) × ℕ) (coded× (coded_list (coded_option code)) coded_ℕ) (λ a. (a.slots, a.room)) (λ p. record { slots = p.0; room = p.1 }) (λ _. refl)

module _ {T : Type 0} where
  -- the live item of an id
  abbrev pub item_at : Arena T → ℕ → Option T
  item_at a id = slice_index_or a.slots id None

  -- the id has been given out, and its item wasn't deleted
  abbrev pub IsLive : Arena T → ℕ → Type 0
  IsLive a id = IsSome (item_at a id)

  -- the id that the next add gives out: the count of ids given out before
  abbrev pub next_id : Arena T → ℕ
  next_id a = length a.slots

  -- how many items live
  abbrev pub live_count : Arena T → ℕ
  live_count a = count_by is_some a.slots

  -- the live items of these slots, each with its id, where the first slot has this id
  abbrev pub entries_from : ℕ → List (Option T) → List (ℕ × T)
  entries_from id [] = []
  entries_from id (None ∷ rest) = entries_from (id + 1) rest
  entries_from id (Some item ∷ rest) = (id, item) ∷ entries_from (id + 1) rest

  -- the live items with their ids, by rising id
  abbrev pub entries : Arena T → List (ℕ × T)
  entries a = entries_from 0 a.slots

  -- the live ids, by rising id
  abbrev pub ids : Arena T → List ℕ
  ids a = map (λ e. e.0) (entries a)

  -- the arena with this item at a live id
  abbrev pub with_item : Arena T → ℕ → T → Arena T
  with_item a id item = record a { slots = slice_set a.slots id (Some item) }

  -- the lowest live id whose item passes the test
  abbrev pub lowest_id : (T → Bool) → Arena T → Option ℕ
  lowest_id test a = option_map (λ e. e.0) (find (λ e. test e.1) (entries a))

  -- the item was told that it is deleted, which made something of it: as `told` is any relation of the
  -- items' type, nothing but a call shows that
  abbrev pub IsTold : (T → T → Type 0) → T → Type 0
  IsTold told item = (after : T) × told item after
