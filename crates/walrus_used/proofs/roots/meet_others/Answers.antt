use Rattle.walrus_references.specs.walrus_module.Parts.{parts}
use Rattle.walrus_used.proofs.RootLemmas.{others_after}
use Rattle.walrus_used.proofs.roots.meet_others.Goals as goal

pub returns : goal.returns
returns g c =
    others_after (parts c.args.input.now) c.args.pushed.now c.args.rooted.now c.args.marks.now c.meet_each.new.marks c.meet_all.new.marks c.meet_all-2.new.marks c.meet_start.new.marks
    c.meet_each.ensures c.meet_all.ensures c.meet_all-2.ensures c.meet_start.ensures
