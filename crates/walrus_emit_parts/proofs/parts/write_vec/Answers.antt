use Rattle.std.proofs.Common.{rules}
use Rattle.walrus_emit_parts.proofs.Lemmas.{count_refused, vec_is}
use Rattle.walrus_emit_parts.proofs.parts.write_vec.Goals as goal

pub returns-in-Err : goal.returns-in-Err
returns-in-Err g c = count_refused g.W.Entry.see (g.W.Entry.due c.args.writer.now) c.args.items.now _ _ _ _ (search rules) c.in-Err.ensures

pub returns : goal.returns
returns g c = vec_is g.W.Entry.see (g.W.Entry.due c.args.writer.now) c.args.items.now _ _ _ _ _ (search rules) c.in-Ok.ensures c.write_each.ensures
