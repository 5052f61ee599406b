use Rattle.walrus_linked.proofs.KeptLemmas.{imports_keep_linked}
use Rattle.walrus_linked.proofs.imports_keep_linked.Goals as goal

pub returns : goal.returns
returns c = imports_keep_linked
