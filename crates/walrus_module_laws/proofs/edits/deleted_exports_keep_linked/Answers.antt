use Rattle.walrus_module_laws.proofs.EditLemmas.{deleted_exports_keep_linked}
use Rattle.walrus_module_laws.proofs.edits.deleted_exports_keep_linked.Goals as goal

pub returns : goal.returns
returns c = deleted_exports_keep_linked
