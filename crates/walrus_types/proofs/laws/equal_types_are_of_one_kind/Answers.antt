use Rattle.walrus_types.proofs.SameLemmas.{type_eq-kinds}
use Rattle.walrus_types.proofs.laws.equal_types_are_of_one_kind.Goals as goal

pub returns : goal.returns
returns c = type_eq-kinds c.args.a.now c.args.b.now
