use Rattle.std.proofs.Common.{◌≡◌, ◌++◌, take}
use Rattle.walrus_emit_parts.specs.Due.{written}
use Rattle.walrus_emit_parts.proofs.Lemmas.{all_due}
use Rattle.walrus_emit_parts.proofs.parts.write_each.Given as goal

abbrev pub invariant-loop-item : goal.invariant-loop-item
invariant-loop-item g l = written l.out.items ≡ written l.fn.out.items ++ all_due g.W.Entry.see (g.W.Entry.due l.writer) (take l.item-index l.items)
