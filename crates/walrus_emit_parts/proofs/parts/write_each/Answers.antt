use Rattle.walrus_emit_parts.proofs.Lemmas.{item_refused}
use Rattle.walrus_emit_parts.proofs.parts.write_each.Goals as goal

pub returns-in-Err : goal.returns-in-Err
returns-in-Err g c =
    item_refused g.W.Entry.see (g.W.Entry.due c.args.writer.now) c.args.items.now c.loop-item.item-index _ c.item-item.result _ _ _ _ c.item-item.is c.loop-item-test.true c.loop-item.invariant c.in-Err.ensures
