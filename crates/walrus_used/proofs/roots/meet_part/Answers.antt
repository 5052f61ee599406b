use Rattle.std.proofs.Common.{◌≡◌, ◌+◌, ◌-◌, arith}
use Rattle.walrus_references.specs.walrus_module.Parts.{parts}
use Rattle.walrus_used.proofs.RootLemmas.{first_part, next_part}
use Rattle.walrus_used.proofs.roots.meet_part.Goals as goal

pub returns-then-part-eq0 : goal.returns-then-part-eq0
returns-then-part-eq0 g c = first_part (parts c.args.input.now) c.args.pushed.now c.args.rooted.now c.args.part c.args.marks.now c.meet_others.new.marks c.if-part-eq0.true c.meet_others.ensures

pub returns-else-part-eq0 : goal.returns-else-part-eq0
returns-else-part-eq0 g c =
    (let next : c.args.part ≡ (c.args.part - 1) + 1 = omega (arith, c.if-part-eq0.false) in
    next_part (parts c.args.input.now) c.args.pushed.now c.args.rooted.now c.args.part (c.args.part - 1) c.args.marks.now c.meet_at.new.marks next c.meet_at.ensures)
