use Rattle.walrus_emit_types.proofs.Lemmas.{too_long}
use Rattle.walrus_emit_types.proofs.kinds.write_list.Goals as goal

pub returns-then-items-most : goal.returns-then-items-most
returns-then-items-most g c = too_long g.W.Entry.see (g.W.Entry.due c.args.writer.now) c.args.items.now c.args.most _ c.if-items-most.true
