use Rattle.std.proofs.Common.{◌≡◌, ◌+◌, [], map, length, take, drop}
use Rattle.walrus_type_index.specs.walrus_items.Items.{group_of}
use Rattle.walrus_type_arenas.specs.Table.{table_of}
use Rattle.walrus_type_arenas.specs.Emission.{groups_fault, index_at, written_types}
use Rattle.walrus_type_arenas.proofs.emit.groups_fault.Given as goal

abbrev pub invariant-loop-group : goal.invariant-loop-group
invariant-loop-group l = record {
  counted : l.end ≡ l.fn.end + length (written_types (table_of l.types.slots []) (map (λ g. group_of g.now) (take l.group-index l.groups)));
  fault : groups_fault (table_of l.types.slots []) (index_at l.indices) l.end (map (λ g. group_of g.now) (drop l.group-index l.groups))
      ≡ groups_fault (table_of l.types.slots []) (index_at l.indices) l.fn.end (map (λ g. group_of g.now) l.groups);
}
