use Rattle.wasm_composite_types.proofs.Taken.{yields_more}
use Rattle.wasm_composite_types.proofs.form.drained.Goals as goal

-- src/form.rt:48:5
pub loop-taken-preserved : goal.loop-taken-preserved
loop-taken-preserved g c =
    let more = c.in_ok-push_next.ensures.more c.if-branch.true in
    (more.3, rw more.2 (yields_more g.I.Iterator.next_gives c.args.items c.loop-taken.taken.items c.loop-taken.items more.0 c.push_next.new.items c.loop-taken.invariant.1 more.1))
