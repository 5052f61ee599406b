use Rattle.walrus_emit_customs.proofs.PayloadLemmas.{names_written}
use Rattle.walrus_emit_customs.proofs.names.emit_names.Goals as goal

pub returns : goal.returns
returns g c = names_written _ _ _ _ _ c.in-Ok.ensures c.write_names.ensures
