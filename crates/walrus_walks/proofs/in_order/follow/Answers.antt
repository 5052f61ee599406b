use Rattle.std.proofs.Common.{List, [], refl, sym, subst}
use Rattle.std.proofs.lemmas.Result.{err_from_is_err_and}
use Rattle.walrus_walks.specs.declared.steps.Step.{Step}
use Rattle.walrus_walks.specs.Steps.{AreSteps, left}
use Rattle.walrus_walks.proofs.Taken.{told_on, told_less, part_on}
use Rattle.walrus_walks.proofs.Turns.{steps_last}
use Rattle.walrus_walks.proofs.in_order.follow.Goals as goal

pub turn-requires-clause-nested : goal.turn-requires-clause-nested
turn-requires-clause-nested g c =
    let b = c.args.seqs.now in
    let F : List Step → Type 0 = AreSteps b in
    (steps_last b c.pop.new.self.items c.in-Some.step (subst F c.in-Some.ensures.items c.loop-step.invariant.steps)).0

pub turn-requires-clause-steps : goal.turn-requires-clause-steps
turn-requires-clause-steps g c =
    let b = c.args.seqs.now in
    let F : List Step → Type 0 = AreSteps b in
    (steps_last b c.pop.new.self.items c.in-Some.step (subst F c.in-Some.ensures.items c.loop-step.invariant.steps)).1

pub loop-step-smaller : goal.loop-step-smaller
loop-step-smaller g c =
    told_less g.V.Visitor.step c.args.seqs.now c.in-Some.step c.pop.new.self.items c.turn.new.stack.items c.loop-step.stack.items c.loop-step.visitor c.turn.new.visitor c.in_ok-turn.ensures.told c.in-Some.ensures.items

pub loop-step-preserved : goal.loop-step-preserved
loop-step-preserved g c = record {
  steps = c.in_ok-turn.ensures.steps;
  told = λ last h. c.loop-step.invariant.told last
      (told_on g.V.Visitor.step c.args.seqs.now c.in-Some.step c.pop.new.self.items c.turn.new.stack.items c.loop-step.stack.items c.loop-step.visitor c.turn.new.visitor c.in_ok-turn.ensures.told c.in-Some.ensures.items last h);
  part = λ last p. c.loop-step.invariant.part last
      (part_on g.V.Visitor.step c.args.seqs.now c.in-Some.step c.pop.new.self.items c.turn.new.stack.items c.loop-step.stack.items c.loop-step.visitor c.turn.new.visitor c.in_ok-turn.ensures.told c.in-Some.ensures.items last p);
}

pub returns-in_err-turn-clause-refused : goal.returns-in_err-turn-clause-refused
returns-in_err-turn-clause-refused g c =
    let p = err_from_is_err_and c.from_residual.result c.from_residual.ensures.1 in
    let rest = left c.args.seqs.now c.loop-step.stack.items in
    rw p.1 (c.loop-step.invariant.part c.turn.new.visitor (record { part = []; rest = rest; splits = refl; folds = sym c.in_err-turn.ensures.refused }))
