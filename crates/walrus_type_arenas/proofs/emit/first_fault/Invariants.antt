use Rattle.std.proofs.Common.{◌≡◌, [], drop}
use Rattle.walrus_type_arenas.specs.Table.{table_of}
use Rattle.walrus_type_arenas.specs.Emission.{fault_at, first_fault, index_at}
use Rattle.walrus_type_arenas.proofs.emit.first_fault.Given as goal

abbrev pub invariant-loop-name : goal.invariant-loop-name
invariant-loop-name l = first_fault (fault_at (table_of l.types.slots []) (index_at l.indices) l.end) (drop l.name-index l.names) ≡ first_fault (fault_at (table_of l.types.slots []) (index_at l.indices) l.end) l.names
