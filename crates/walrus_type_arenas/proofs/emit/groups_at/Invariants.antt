use Rattle.std.proofs.Common.{◌≡◌, map, take, slice_index_or}
use Rattle.walrus_type_index.specs.walrus_items.Items.{group_of}
use Rattle.walrus_type_arenas.specs.Emission.{no_group}
use Rattle.walrus_type_arenas.proofs.emit.groups_at.Given as goal

abbrev pub invariant-loop-position : goal.invariant-loop-position
invariant-loop-position l = map (λ g. group_of g.now) l.found.items ≡ map (λ i. slice_index_or (map (λ g. group_of g.now) l.groups) i no_group) (take l.position-index l.positions)
