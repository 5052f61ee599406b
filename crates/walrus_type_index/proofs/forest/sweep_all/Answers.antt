use Rattle.std.proofs.Common.{arith}
use Rattle.walrus_type_index.proofs.DirectoryLemmas.{tree-inside}
use Rattle.walrus_type_index.proofs.ForestLemmas.{swept-next, swept-all}
use Rattle.walrus_type_index.proofs.forest.sweep_all.Goals as goal

pub loop-place-preserved : goal.loop-place-preserved
loop-place-preserved c top trees last are =
    swept-next c.loop-place.nodes _ _ c.loop-place.tops trees c.loop-place.place top _ _ c.unmarked.result last (omega (arith, c.loop-place-test.true, c.loop-place.auto.tops)) (tree-inside c.loop-place.tops c.loop-place.place top 0 (omega (arith, c.loop-place-test.true, c.loop-place.auto.tops)))
    (omega (arith, c.loop-place.auto.nodes)) c.unmarked.ensures (c.loop-place.invariant top trees last are)

pub returns : goal.returns
returns c top trees last are = swept-all _ _ c.args.tops.now c.loop-place.tops trees c.loop-place.place top last (omega (arith, c.loop-place-test.false, c.loop-place.auto.place-end)) (c.loop-place.invariant top trees last are)
