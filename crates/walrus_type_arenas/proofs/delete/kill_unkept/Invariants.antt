use Rattle.std.proofs.Common.{◌≡◌}
use Rattle.std.specs.Bool.{OnFalse}
use Rattle.walrus_type_arenas.specs.Table.{is_spared, table_of}
use Rattle.walrus_type_arenas.proofs.MarkLemmas.{IsKilledTo}
use Rattle.walrus_type_arenas.proofs.delete.kill_unkept.Given as goal

abbrev pub invariant-loop-index : goal.invariant-loop-index
invariant-loop-index l = record {
  killed : IsKilledTo (is_spared (table_of l.fn.types.slots l.groups.slots) l.homes) l.index l.fn.marks l.marks l.fn.types.slots l.types.slots;
  same : OnFalse l.killed (l.types.slots ≡ l.fn.types.slots);
}
