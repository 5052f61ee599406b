use Rattle.walrus_module_laws.proofs.ChangeLaws.{writes_keep_linked}
use Rattle.walrus_module_laws.proofs.changes.writes_keep_linked.Goals as goal

pub returns : goal.returns
returns c = writes_keep_linked
