use Rattle.std.proofs.Common.{List, refl, sym, subst}
use Rattle.std.proofs.lemmas.Result.{err_from_is_err_and}
use Rattle.walrus_walks.specs.declared.steps.Step.{Step}
use Rattle.walrus_walks.specs.declared.steps.Step.TheVariants.{Resume}
use Rattle.walrus_walks.specs.Steps.{AreSteps}
use Rattle.walrus_walks.proofs.Nested.{nested_read}
use Rattle.walrus_walks.proofs.Taken.{enter_told}
use Rattle.walrus_walks.proofs.Turns.{steps_snoc}
use Rattle.walrus_walks.proofs.in_order.enter.Goals as goal

pub returns-clause-told : goal.returns-clause-told
returns-clause-told g c =
    let b = c.args.seqs.now in
    let k = c.args.id in
    let s = c.index-seqs-index.result in
    let known = nested_read b k c.index.result s c.requires.nested c.index.ensures c.index-seqs-index.is in
    enter_told g.V.Visitor.step b c.args.stack.now.items k s c.requires.nested known c.args.visitor.now c.start_instr_seq.new.self c.visit.new.visitor c.start_instr_seq.ensures c.visit.ensures c.push.new.self.items c.in_ok-push.ensures.items

pub returns-clause-steps : goal.returns-clause-steps
returns-clause-steps g c =
    let b = c.args.seqs.now in
    let F : List Step → Type 0 = AreSteps b in
    subst F (sym c.in_ok-push.ensures.items) (steps_snoc b c.args.stack.now.items (Resume c.args.id 0) c.requires.steps c.requires.nested)

pub returns-in_err-push-clause-refused : goal.returns-in_err-push-clause-refused
returns-in_err-push-clause-refused g c = rw (err_from_is_err_and c.from_residual.result c.from_residual.ensures.1).1 refl
