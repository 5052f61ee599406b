use Rattle.std.proofs.Common.{◌≡◌, [], ◌++◌, map, take}
use Rattle.walrus_type_index.specs.walrus_items.walrus_forms.Records.{type_group}
use Rattle.walrus_type_index.specs.walrus_items.Items.{group_of}
use Rattle.walrus_type_arenas.specs.Table.{table_of}
use Rattle.walrus_type_arenas.specs.Emission.{index_at, described_group}
use Rattle.walrus_type_arenas.proofs.emit.push_records.Given as goal

abbrev pub invariant-loop-group : goal.invariant-loop-group
invariant-loop-group l =
    map type_group l.records.items ≡ map type_group l.fn.records.items ++ map (described_group (table_of l.types.slots []) (index_at l.indices)) (map (λ g. group_of g.now) (take l.group-index l.groups))
