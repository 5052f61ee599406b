-- Sets of items, as flags by space and id.
use Rattle.std.specs.Prelude.{ℕ, ◌<◌, nat_lt, nat_eq, Option, Some, None, Bool, true, false, not, List, [], ◌∷◌, ◌++◌, length, map, count_by, slice_index_or, slice_set, replicate, Vec, if◌then◌else◌}
use Rattle.std.specs.Global.{Global}
use Rattle.std.specs.List.{sum_by, list_any}
use Rattle.walrus_roots.specs.declared.item.Item.{Item}
use Rattle.walrus_roots.specs.Items.{space_number}

-- the flags of an item's space
abbrev pub flags_of : List (List Bool) → Item → List Bool
flags_of marks i = slice_index_or marks (space_number i.space) []

abbrev pub is_marked : List (List Bool) → Item → Bool
is_marked marks i = slice_index_or (flags_of marks i) i.id false

-- there is a flag for the item
abbrev pub Fits : List (List Bool) → Item → Type 0
Fits marks i = i.id < length (flags_of marks i)

abbrev pub mark : List (List Bool) → Item → List (List Bool)
mark marks i = slice_set marks (space_number i.space) (slice_set (flags_of marks i) i.id true)

-- the marks of what was met, and of this what is still to be looked at
pub record Met : Type 0 where
  pub marks : List (List Bool)
  pub work : List Item

-- whether the item has a flag that isn't set
abbrev pub is_new : List (List Bool) → Item → Bool
is_new marks i = not (slice_index_or (flags_of marks i) i.id true)

-- one more is met: a new one is marked, and is to be looked at
abbrev pub meet_there : Met → Item → Met
meet_there s i = if is_new s.marks i then record { marks = mark s.marks i; work = s.work ++ i ∷ [] } else s

-- of what was met without a flag one item, and which items are claimed: ids by the number of their space
pub record Missing : Type 0 where
  pub item : Option Item
  pub claimed : List (List ℕ)

-- the item is one of those that are claimed
abbrev pub is_claimed : List (List ℕ) → Item → Bool
is_claimed claimed i = list_any (nat_eq i.id) (slice_index_or claimed (space_number i.space) [])

-- which of two without a flag is kept: the one before, if it is claimed, else this one
abbrev pub kept_missing : List (List ℕ) → Option Item → Item → Option Item
kept_missing claimed None i = Some i
kept_missing claimed (Some j) i = if is_claimed claimed j then Some j else Some i

abbrev pub miss : Missing → Item → Missing
miss s i = record { item = kept_missing s.claimed s.item i; claimed = s.claimed }

-- the item is there and is claimed
abbrev pub is_one_claimed : List (List ℕ) → Option Item → Bool
is_one_claimed claimed None = false
is_one_claimed claimed (Some i) = is_claimed claimed i

-- a claimed one was met without a flag
abbrev pub misses_claimed : Missing → Bool
misses_claimed m = is_one_claimed m.claimed m.item

-- what was met
pub record State : Type 0 where
  pub met : Met
  pub missing : Missing

abbrev pub has_flag : List (List Bool) → Item → Bool
has_flag marks i = nat_lt i.id (length (flags_of marks i))

abbrev pub meet : State → Item → State
meet s i = record { met = meet_there s.met i; missing = if has_flag s.met.marks i then s.missing else miss s.missing i }

-- so many are not marked
abbrev pub left_in : List Bool → ℕ
left_in flags = count_by not flags

abbrev pub left_out : List (List Bool) → ℕ
left_out marks = sum_by left_in marks

-- vectors as lists
abbrev pub lists_of : {A : Type 0} → List (Vec A Global) → List (List A)
lists_of vs = map (λ v. v.items) vs

-- nothing is met, there are so many flags by space, and these are claimed
abbrev pub met_none : List ℕ → List (List ℕ) → State
met_none counts claimed = record { met = record { marks = map (λ n. replicate n false) counts; work = [] }; missing = record { item = None; claimed = claimed } }
