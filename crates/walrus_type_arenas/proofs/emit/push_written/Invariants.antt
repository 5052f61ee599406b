use Rattle.std.proofs.Common.{◌≡◌, ◌++◌, [], filter, take}
use Rattle.walrus_type_arenas.specs.Table.{table_of}
use Rattle.walrus_type_arenas.specs.Emission.{is_written}
use Rattle.walrus_type_arenas.proofs.emit.push_written.Given as goal

abbrev pub invariant-loop-id : goal.invariant-loop-id
invariant-loop-id l = l.written.items ≡ l.fn.written.items ++ filter (is_written (table_of l.types.slots [])) (take l.id-index l.group.types.items)
