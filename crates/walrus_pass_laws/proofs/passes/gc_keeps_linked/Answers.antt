use Rattle.walrus_pass_laws.proofs.LinkedLemmas.{keeps_linked}
use Rattle.walrus_pass_laws.proofs.passes.gc_keeps_linked.Goals as goal

pub returns : goal.returns
returns c = keeps_linked
