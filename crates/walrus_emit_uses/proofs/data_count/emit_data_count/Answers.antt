use Rattle.std.proofs.Common.{arith}
use Rattle.walrus_emit_uses.proofs.Lemmas.{count_refused, count_written}
use Rattle.walrus_emit_uses.proofs.data_count.emit_data_count.Goals as goal

pub returns-then-count-gt-MAX : goal.returns-then-count-gt-MAX
returns-then-count-gt-MAX c = count_refused c.args.segments.now c.args.is_named c.in-Ok.count _ c.in-Ok.ensures c.if-count-gt-MAX.true

pub returns : goal.returns
returns c = count_written c.args.segments.now c.args.is_named c.in-Ok.count c.is_asked.result _ _ _ c.in-Ok.ensures c.is_asked.ensures (omega arith) c.write_count.ensures
