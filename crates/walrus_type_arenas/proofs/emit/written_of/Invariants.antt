use Rattle.std.proofs.Common.{◌≡◌, [], map, take}
use Rattle.walrus_type_index.specs.walrus_items.Items.{group_of}
use Rattle.walrus_type_arenas.specs.Table.{table_of}
use Rattle.walrus_type_arenas.specs.Emission.{written_types}
use Rattle.walrus_type_arenas.proofs.emit.written_of.Given as goal

abbrev pub invariant-loop-group : goal.invariant-loop-group
invariant-loop-group l = l.written.items ≡ written_types (table_of l.types.slots []) (map (λ g. group_of g.now) (take l.group-index l.groups))
