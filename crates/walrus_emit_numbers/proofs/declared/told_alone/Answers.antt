use Rattle.walrus_emit_numbers.specs.Undeclared.{is_alone}
use Rattle.walrus_emit_numbers.proofs.Marks.{one_more}
use Rattle.walrus_emit_numbers.proofs.declared.told_alone.Goals as goal

pub loop-at-preserved : goal.loop-at-preserved
loop-at-preserved c =
    one_more (is_alone c.args.told.now.flags.items c.args.held.now.flags.items) c.loop-at.at c.loop-at.found.items _ c.loop-at.invariant c.in_ok-add_alone.ensures
