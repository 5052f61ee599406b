use Rattle.walrus_local_numbers.proofs.Counting.{one_more}
use Rattle.walrus_local_numbers.proofs.runs.runs.Goals as goal

pub loop-key-preserved : goal.loop-key-preserved
loop-key-preserved c = one_more c.args.keys.now c.loop-key.key-index c.key-item.result c.loop-key.runs.items c.add.new.runs.items c.loop-key-test.true c.key-item.is c.loop-key.invariant c.in_ok-add.ensures
