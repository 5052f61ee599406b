use Rattle.std.proofs.Common.{slice_index_or, None}
use Rattle.walrus_type_arenas.proofs.TableLemmas.{held}
use Rattle.walrus_type_arenas.proofs.IndexLemmas.{held-dead}
use Rattle.walrus_type_arenas.proofs.delete.clear.Goals as goal

pub returns-then-contains-clause-held : goal.returns-then-contains-clause-held
returns-then-contains-clause-held c =
    let slots = c.args.types.now.slots in
    let there = held (slice_index_or slots c.args.id None) (c.contains.ensures.0 c.if-contains.true) in
    rw c.delete.ensures.deleted (held-dead slots c.lend.new.index c.args.id there.0 there.1 c.lend.ensures.index)
