use Rattle.walrus_module_laws.proofs.ChangeLaws.{deletes_keep_linked}
use Rattle.walrus_module_laws.proofs.changes.deletes_keep_linked.Goals as goal

pub returns : goal.returns
returns c = deletes_keep_linked
