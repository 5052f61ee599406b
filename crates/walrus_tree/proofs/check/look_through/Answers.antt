use Rattle.std.proofs.Common.{arith, sym}
use Rattle.walrus_tree.proofs.Entering.{pushed_more, within_more}
use Rattle.walrus_tree.proofs.check.look_through.Goals as goal

pub loop-instr-preserved : goal.loop-instr-preserved
loop-instr-preserved c =
    let is = c.args.instrs.now in
    let n = c.loop-instr.instr-index in
    let x = c.loop-instr-item.result in
    record {
      within = within_more c.args.marks.now c.args.depth is n x _ (omega arith) c.loop-instr-item.is (sym c.if-not-is_within.ensures) c.loop-instr.invariant.within;
      pushed = pushed_more c.loop-instr.steps.items c.push_children.new.steps.items _ is n x (omega arith) c.loop-instr-item.is (c.in_ok-push_children.ensures) c.loop-instr.invariant.pushed;
    }
