use Rattle.std.proofs.Common.{[], arith}
use Rattle.walrus_type_arenas.specs.Table.{table_of}
use Rattle.walrus_type_arenas.proofs.EmitLemmas.{count-fits}
use Rattle.walrus_type_arenas.proofs.emit.groups_fault.Goals as goal

pub overflow_add-end : goal.overflow_add-end
overflow_add-end c =
    let t = table_of c.args.types.now.slots [] in
    let fits = count-fits t c.args.groups.now c.loop-group.group-index c.group-item.result c.loop-group-test.true c.group-item.is in
    omega (arith, fits, c.loop-group.invariant.counted, c.written_count.ensures, c.requires)
