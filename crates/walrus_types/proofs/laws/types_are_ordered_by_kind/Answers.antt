use Rattle.walrus_type_arenas.proofs.walrus_type_index.OrderLemmas.{type_ord-kinds}
use Rattle.walrus_types.proofs.laws.types_are_ordered_by_kind.Goals as goal

pub returns : goal.returns
returns c = type_ord-kinds c.args.a.now c.args.b.now
