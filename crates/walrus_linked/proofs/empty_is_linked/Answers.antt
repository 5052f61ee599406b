use Rattle.walrus_linked.proofs.EmptyLemmas.{empty_linked}
use Rattle.walrus_linked.proofs.empty_is_linked.Goals as goal

pub returns : goal.returns
returns c = empty_linked
