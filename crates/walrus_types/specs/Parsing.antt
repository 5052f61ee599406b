-- What a table is after the groups of a type section were added to it, one after another.
use Rattle.std.specs.Prelude.{◌≡◌, ℕ, ◌+◌, ⊤, Bool, true, false, List, [], ◌∷◌, ◌++◌, All, length, map, Option, Some, None}
use Rattle.std.specs.List.{range_with_len}
use Rattle.walrus_type_arenas.specs.walrus_type_index.walrus_items.walrus_forms.Kinds.{Kind}
use Rattle.walrus_type_arenas.specs.walrus_type_index.walrus_items.walrus_forms.Records.{TypeGroup}
use Rattle.walrus_type_arenas.specs.walrus_type_index.walrus_items.walrus_forms.Renaming.{KindBelow, at, renamed_kind}
use Rattle.walrus_type_arenas.specs.Groups.{new_items, group_slot}
use Rattle.walrus_type_arenas.specs.Table.{Table, next_id, equal_type}

-- what was parsed so far: for each type of the section the id of what stands for it, and the table
pub record Parsed : Type 0 where
  pub ids : List ℕ
  pub table : Table

-- the table with one more group, of types of these kinds under the next ids
abbrev pub with_group : Bool → List Kind → Table → Table
with_group explicit kinds t =
    record { types = t.types ++ new_items (next_id t) kinds; groups = t.groups ++ group_slot explicit (range_with_len (next_id t) (length kinds)) }

-- a single type: the equal type that was found stands for it, or it is added
abbrev pub merged : Option ℕ → Kind → Parsed → Parsed
merged (Some found) kind s = record { ids = s.ids ++ found ∷ []; table = s.table }
merged None kind s = record { ids = s.ids ++ next_id s.table ∷ []; table = with_group false (kind ∷ []) s.table }

-- types of these kinds: one that stands in no written group is single, and may merge; others are
-- added as an explicit group, as no other spelling has them
abbrev pub added : Bool → List Kind → Parsed → Parsed
added false (kind ∷ []) s = merged (equal_type kind s.table) kind s
added _ kinds s = record { ids = s.ids ++ range_with_len (next_id s.table) (length kinds); table = with_group true kinds s.table }

-- the group's types name those before them by their ids, and those of the group itself by the ids that
-- they are to have
abbrev pub known_ids : TypeGroup → Parsed → List ℕ
known_ids group s = s.ids ++ range_with_len (next_id s.table) (length group.kinds)

abbrev pub parsed_group : TypeGroup → Parsed → Parsed
parsed_group group s = added group.marked (map (renamed_kind (at (known_ids group s))) group.kinds) s

-- the groups one after another
abbrev pub parsed : List TypeGroup → Parsed → Parsed
parsed [] s = s
parsed (group ∷ groups) s = parsed groups (parsed_group group s)

-- before any group
abbrev pub unparsed : Table → Parsed
unparsed t = record { ids = []; table = t }

-- each type names types below the end of its group, where so many types stand before
abbrev pub AreBelow : ℕ → List TypeGroup → Type 0
AreBelow n [] = ⊤
AreBelow n (group ∷ groups) = All (KindBelow (n + length group.kinds)) group.kinds × AreBelow (n + length group.kinds) groups

-- the table after some of the groups, not all of them
pub record IsPartOf (groups : List TypeGroup) (old new : Table) : Type 0 where
  pub before : List TypeGroup
  pub refused : TypeGroup
  pub after : List TypeGroup
  pub split : groups ≡ before ++ refused ∷ after
  pub table : new ≡ (parsed before (unparsed old)).table
