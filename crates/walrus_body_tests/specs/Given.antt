-- How many numbers were given in turn, in all spaces.
use Rattle.std.specs.Prelude.{ℕ, ◌+◌}
use Rattle.walrus_index_maps.specs.Maps.{Indices}

abbrev pub given : Indices → ℕ
given m =
    m.types.given + m.functions.given + m.tables.given + m.memories.given + m.tags.given + m.globals.given + m.elements.given
