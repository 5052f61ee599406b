use Rattle.walrus_emit_customs.proofs.CustomLemmas.{contents_refused}
use Rattle.walrus_emit_customs.proofs.customs.write_boxed.Goals as goal

pub returns-in-Err : goal.returns-in-Err
returns-in-Err g c = contents_refused _ _ c.args.out.now.items c.in-Err.fault c.from.result c.in-Err.ensures c.from.ensures
