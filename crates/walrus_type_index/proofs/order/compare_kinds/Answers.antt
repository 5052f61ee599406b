use Rattle.std.proofs.Common.{◌∙◌}
use Rattle.walrus_type_index.proofs.OrderLemmas.{type_ord-kinds}
use Rattle.walrus_type_index.proofs.order.compare_kinds.Goals as goal

pub returns : goal.returns
returns c = c.cmp.ensures ∙ type_ord-kinds c.args.x.now c.args.y.now
