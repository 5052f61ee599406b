use Rattle.std.proofs.Common.{arith}
use Rattle.walrus_roots.specs.Items.{item}
use Rattle.walrus_passes.specs.Keeping.{IsHeld}
use Rattle.walrus_passes.proofs.RestLemmas.{rest_all}
use Rattle.walrus_passes.proofs.drop.drop_items.Goals as goal

pub returns : goal.returns
returns g c = rest_all (λ id _. IsHeld c.args.kept.now (item c.args.space id)) c.args.items.now c.loop-index.items c.loop-index.index (omega (arith, c.loop-index-test.false, c.loop-index.auto.index-end, c.index-index-end.ensures, c.next_id.ensures)) c.loop-index.invariant
