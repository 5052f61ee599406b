use Rattle.walrus_emit_customs.proofs.NameLemmas.{local_skipped}
use Rattle.walrus_emit_customs.proofs.names.add_local.Goals as goal

pub returns-in-None : goal.returns-in-None
returns-in-None c = local_skipped _ _ c.args.locals.now c.args.id c.index.result c.index.ensures c.in-None.ensures.lookup.3
