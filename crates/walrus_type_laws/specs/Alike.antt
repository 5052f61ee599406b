-- Two tables that are written alike: the one has the other's types under other ids, and its groups in
-- another order in which the anchors stand where they did.
use Rattle.std.specs.Prelude.{◌≡◌, ◌≢◌, ◌↔◌, ℕ, ◌<◌, true, List, length, map, Contains, AllPairs, IsPermutation, Option, Some, slice_get, slice_index_or}
use Rattle.std.specs.List.{range_with_len, flat_map}
use Rattle.std.specs.Option.{option_map}
use Rattle.std.specs.declared.cmp.Ordering.TheVariants.{Equal}
use Rattle.walrus_type_order.specs.Order.{HasAnchor}
use Rattle.walrus_forms.specs.Kinds.{Kind}
use Rattle.walrus_forms.specs.Order.{kind_cmp}
use Rattle.walrus_forms.specs.Records.{TypeGroup}
use Rattle.walrus_forms.specs.Renaming.{renamed_kind}
use Rattle.walrus_types.specs.Items.{Group}
use Rattle.walrus_types.specs.Table.{Table}
use Rattle.walrus_types.specs.Emission.{written_kind, is_written, written_groups, key_of, index_at, no_group, IsEmission}

-- the keys by which the groups of a table are ordered, none at anchors
abbrev pub keys_of : Table → List (Option Kind)
keys_of t = map (key_of t) (written_groups t)

-- the members of the groups that are written, one group after the other
abbrev pub members : Table → List ℕ
members t = flat_map (λ group. group.types) (written_groups t)

-- a group with each member's id replaced
abbrev pub renamed_group : (ℕ → ℕ) → Group → Group
renamed_group r group = record { explicit = group.explicit; types = map r group.types }

-- the members of the groups are the types that are written, each once
pub record AreHomed (t : Table) : Type 0 where
  pub homed : (id : ℕ) → Contains (members t) id ↔ (is_written t id ≡ true)
  pub once : AllPairs (λ id other. id ≢ other) (members t)

-- u is t with its ids replaced by r and its groups in another order, at which none passes an anchor and
-- groups of equal keys stay in order
pub record Alike (r : ℕ → ℕ) (t u : Table) : Type 0 where
  -- the positions in t of the groups of u
  pub turn : List ℕ
  pub whole : IsPermutation (range_with_len 0 (length (written_groups t))) turn
  pub groups : written_groups u ≡ map (λ i. renamed_group r (slice_index_or (written_groups t) i no_group)) turn
  pub kinds : (id : ℕ) → Contains (members t) id → written_kind u (r id) ≡ option_map (renamed_kind r) (written_kind t id)
  pub one : (id other : ℕ) → Contains (members t) id → Contains (members t) other → r id ≡ r other → id ≡ other
  pub anchored : AllPairs (λ i j. ¬ HasAnchor (keys_of t) j i) turn
  pub stable : AllPairs (λ i j. (a b : Kind) → slice_get (keys_of t) i ≡ Some (Some a) → slice_get (keys_of t) j ≡ Some (Some b) → kind_cmp a b ≡ Equal → i < j) turn

-- tables that are alike are written by the same records, each type at the same index
abbrev pub AlikeAreWrittenAlike : Type 0
AlikeAreWrittenAlike = (r : ℕ → ℕ) (t u : Table) → AreHomed t → Alike r t u → (out other : List TypeGroup) (indices others : List (Option ℕ))
    → IsEmission t out indices → IsEmission u other others
    → (other ≡ out) × ((id : ℕ) → is_written t id ≡ true → index_at others (r id) ≡ index_at indices id)
