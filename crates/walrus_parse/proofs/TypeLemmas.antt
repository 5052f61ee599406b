-- No type of a file was deleted: as many live as have ids.
use Rattle.std.specs.Prelude.{ℕ, suc, ◌+◌, ◌≡◌, Bool, true, false, List, [], ◌∷◌, ◌++◌, length, map, Option, Some, None, refl}
use Rattle.std.proofs.Common.{ap}
use Rattle.walrus_arena.specs.Arena.{entries_from}
use Rattle.walrus_named_bodies.specs.walrus_item_names.walrus_module.walrus_types.walrus_forms.Kinds.{Kind}
use Rattle.walrus_named_bodies.specs.walrus_item_names.walrus_module.walrus_types.walrus_forms.Records.{TypeGroup}
use Rattle.walrus_named_bodies.specs.walrus_item_names.walrus_module.walrus_types.walrus_forms.Renaming.{at, renamed_kind}
use Rattle.walrus_named_bodies.specs.walrus_item_names.walrus_module.walrus_types.Groups.{new_items}
use Rattle.walrus_named_bodies.specs.walrus_item_names.walrus_module.walrus_types.Parsing.{Parsed, added, known_ids, merged, parsed, parsed_group, unparsed}
use Rattle.walrus_named_bodies.specs.walrus_item_names.walrus_module.walrus_types.Table.{entries, equal_type, next_id}
use Rattle.walrus_named_bodies.specs.walrus_item_names.walrus_module.walrus_types.walrus_items.Items.{Item}

abbrev AreAll : List (Option Item) → Type 0
AreAll [] = Unit {0}
AreAll (None ∷ slots) = ⊥
AreAll (Some item ∷ slots) = AreAll slots

all_behind : (slots more : List (Option Item)) → AreAll slots → AreAll more → AreAll (slots ++ more)
all_behind [] more first second = second
all_behind (None ∷ slots) more first second = absurd first
all_behind (Some item ∷ slots) more first second = all_behind slots more first second

new_are_all : (id : ℕ) (kinds : List Kind) → AreAll (new_items id kinds)
new_are_all id [] = tt
new_are_all id (kind ∷ kinds) = new_are_all (id + 1) kinds

merged_are_all : (found : Option ℕ) (kind : Kind) (s : Parsed) → AreAll s.table.types → AreAll (merged found kind s).table.types
merged_are_all (Some id) kind s all = all
merged_are_all None kind s all = all_behind s.table.types (new_items (next_id s.table) (kind ∷ [])) all (new_are_all (next_id s.table) (kind ∷ []))

added_are_all : (marked : Bool) (kinds : List Kind) (s : Parsed) → AreAll s.table.types → AreAll (added marked kinds s).table.types
added_are_all false (kind ∷ []) s all = merged_are_all (equal_type kind s.table) kind s all
added_are_all false [] s all = all_behind s.table.types (new_items (next_id s.table) []) all (new_are_all (next_id s.table) [])
added_are_all false (kind ∷ other ∷ kinds) s all = all_behind s.table.types (new_items (next_id s.table) (kind ∷ other ∷ kinds)) all (new_are_all (next_id s.table) (kind ∷ other ∷ kinds))
added_are_all true kinds s all = all_behind s.table.types (new_items (next_id s.table) kinds) all (new_are_all (next_id s.table) kinds)

parsed_are_all : (groups : List TypeGroup) (s : Parsed) → AreAll s.table.types → AreAll (parsed groups s).table.types
parsed_are_all [] s all = all
parsed_are_all (group ∷ groups) s all = parsed_are_all groups (parsed_group group s) (added_are_all group.marked (map (renamed_kind (at (known_ids group s))) group.kinds) s all)

all_are_entries : (id : ℕ) (slots : List (Option Item)) → AreAll slots → length (entries_from id slots) ≡ length slots
all_are_entries id [] all = refl
all_are_entries id (None ∷ slots) all = absurd all
all_are_entries id (Some item ∷ slots) all = ap (λ (n : ℕ). suc n) (all_are_entries (id + 1) slots all)

pub all_live : (groups : List TypeGroup) → let t = (parsed groups (unparsed (record { types = []; groups = [] }))).table in length (entries t) ≡ next_id t
all_live groups =
    let s = unparsed (record { types = []; groups = [] }) in
    all_are_entries 0 (parsed groups s).table.types (parsed_are_all groups s tt)
