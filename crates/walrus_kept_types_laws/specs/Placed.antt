-- A table of types by places: each type under its place in a list of ids, as a file's module numbers its types (Core Specification, indices).
use Rattle.std.specs.Prelude.{ℕ, suc, ◌==◌, List, [], ◌∷◌, map, Option, Some, None, slice_index_or, if◌then◌else◌}
use Rattle.walrus_type_laws.specs.Alike.{renamed_group}
use Rattle.walrus_types.specs.Emission.{written_groups}
use Rattle.walrus_types.specs.Items.{Group}
use Rattle.walrus_types.specs.Table.{Table, type_at}

-- how many ids stand in front of this one
abbrev pub place_among : List ℕ → ℕ → ℕ
place_among [] id = 0
place_among (n ∷ ns) id = if n == id then 0 else suc (place_among ns id)

-- the types of these ids in their order, in the groups that are written
abbrev pub placed_table : List ℕ → Table → Table
placed_table ids t = record { types = map (type_at t) ids; groups = map (λ (g : Group). Some (renamed_group (place_among ids) g)) (written_groups t) }

-- the index of each of them
abbrev pub placed_indices : List ℕ → List (Option ℕ) → List (Option ℕ)
placed_indices ids indices = map (λ id. slice_index_or indices id None) ids
