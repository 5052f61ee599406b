use Rattle.std.proofs.Common.{◌∙◌, Bool, ap, false, subst, sym, true}
use Rattle.walrus_body_locals.specs.Named.{Steps, among, is_among}
use Rattle.walrus_body_locals.proofs.Scanning.{among_many, among_named, scan_ends, scan_on}
use Rattle.walrus_body_locals.proofs.named.named_locals.Goals as goal

pub loop-numbers-preserved : goal.loop-numbers-preserved
loop-numbers-preserved c =
    scan_on c.args.params c.args.count c.args.body c.loop-numbers.reader c.step.new.reader c.loop-numbers.numbers.items c.step.new.numbers.items c.loop-numbers.invariant
    (subst (Steps c.args.params c.args.count c.loop-numbers.reader c.step.new.reader c.loop-numbers.numbers.items c.step.new.numbers.items) c.if-branch.true c.in_ok-step.ensures.steps)

pub returns-clause-named : goal.returns-clause-named
returns-clause-named c =
    let ns = c.step.new.numbers.items in
    let last = subst (Steps c.args.params c.args.count c.loop-numbers.reader c.step.new.reader c.loop-numbers.numbers.items ns) c.if-branch.false c.in_ok-step.ensures.steps in
    let ends = scan_ends c.args.params c.args.count c.args.body c.loop-numbers.reader c.step.new.reader c.loop-numbers.numbers.items ns c.loop-numbers.invariant last in (
      among c.args.count ns,
      record { many = among_many c.args.count ns; are = c.in_ok-kept.ensures },
      λ ops are. among_named c.args.params c.args.count ns ops (λ n lt. ends ops are n lt ∙ ap (λ (l : _). is_among l n) (sym last.1)),
    )
