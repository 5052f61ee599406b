use Rattle.walrus_module_laws.proofs.EditLemmas.{adds_keep_linked}
use Rattle.walrus_module_laws.proofs.edits.adds_keep_linked.Goals as goal

pub returns : goal.returns
returns c = adds_keep_linked
