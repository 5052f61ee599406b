use Rattle.walrus_type_order.proofs.UniqueLemmas.{one_emission_order}
use Rattle.walrus_type_order.proofs.laws.order_is_determined.Goals as goal

pub returns : goal.returns
returns g c = one_emission_order g.T.Ord.cmp g.met.T.Ord.total c.args.entries.now
