use Rattle.walrus_walks.proofs.ConstTells.{exprs_tell_ops}
use Rattle.walrus_walks.proofs.visit_laws.expressions_tell_their_operators.Goals as goal

pub returns : goal.returns
returns c = exprs_tell_ops
