use Rattle.walrus_passes.proofs.AskedLemmas.{shared_these}
use Rattle.walrus_passes.proofs.used.Used.new.Goals as goal

pub returns-clause-shared : goal.returns-clause-shared
returns-clause-shared g c = shared_these c.in_ok-roots.ensures c.items.ensures.items c.from_roots.result c.items.ensures.shared
