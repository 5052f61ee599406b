use Rattle.std.proofs.Common.{◌≡◌, ◌≤◌, [], filter, length, take}
use Rattle.walrus_type_arenas.specs.Table.{table_of}
use Rattle.walrus_type_arenas.specs.Emission.{is_written}
use Rattle.walrus_type_arenas.proofs.emit.written_count.Given as goal

abbrev pub invariant-loop-id : goal.invariant-loop-id
invariant-loop-id l = record {
  counted : l.count ≡ length (filter (is_written (table_of l.types.slots [])) (take l.id-index l.group.types.items));
  below : l.count ≤ l.id-index;
}
