-- How many ids there are in each space.
use Rattle.std.specs.Prelude.{ℕ, ◌+◌, List, [], ◌∷◌, length, map, nat_lt, if◌then◌else◌}
use Rattle.std.specs.List.{fold}
use Rattle.walrus_arena.specs.Arena.{entries_from}
use Rattle.walrus_items.specs.Items.{Group}
use Rattle.walrus_types.specs.Table.{Table}
use Rattle.walrus_references.specs.walrus_module.Parts.{Module}

-- the count, or one more than the id
abbrev pub past_id : ℕ → ℕ → ℕ
past_id count id = if nat_lt id count then count else id + 1

-- the count, or one more than the highest id of the group
abbrev pub past_group : ℕ → Group → ℕ
past_group count group = fold past_id count group.types

-- one more than the highest id of a live type
abbrev pub past_types : Table → ℕ
past_types t = fold past_group 0 (map (λ e. e.1) (entries_from 0 t.groups))

-- by space, how many ids were given out; of types, one more than the highest live one
abbrev pub counts_of : Module → List ℕ
counts_of m = past_types m.types ∷ length m.funcs.slots ∷ length m.tables.slots ∷ length m.memories.slots ∷ length m.tags.slots ∷ length m.globals.slots ∷ length m.elements.slots
    ∷ length m.data_segments.slots ∷ length m.locals ∷ 0 ∷ []
