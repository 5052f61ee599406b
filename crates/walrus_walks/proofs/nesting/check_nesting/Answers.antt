use Rattle.std.proofs.Common.{◌≡◌, ◌++◌, ◌∷◌, [], List, subst, sym, ap, ◌∙◌}
use Rattle.walrus_walks.specs.declared.steps.Step.{Step}
use Rattle.walrus_walks.specs.declared.steps.Step.TheVariants.{Enter}
use Rattle.walrus_walks.specs.Checks.{Checks, AllKnown}
use Rattle.walrus_walks.proofs.Marks.{known_front}
use Rattle.walrus_walks.proofs.Transitions.{checks_begin}
use Rattle.walrus_walks.proofs.nesting.check_nesting.Goals as goal

pub loop-step-init : goal.loop-step-init
loop-step-init c =
    let b = c.args.seqs.now in
    let first = Enter c.args.start in
    let items : c.push.new.self.items ≡ first ∷ [] = c.in_ok-push.ensures.items ∙ ap (λ (fs : List Step). fs ++ first ∷ []) c.new-stack.ensures.items in
    let F : List Step → Type 0 = Checks b c.args.start c.in_ok-marks.marks.items in
    record {
      sized = c.in_ok-marks.ensures.sized;
      checks = subst F (sym items) (checks_begin b c.args.start c.in_ok-marks.marks.items c.in_ok-marks.ensures.fresh);
    }

pub check_step-requires-clause-known : goal.check_step-requires-clause-known
check_step-requires-clause-known c =
    let b = c.args.seqs.now in
    let F : List Step → Type 0 = AllKnown b in
    (known_front b c.pop.new.self.items (c.in-Some.step ∷ []) (subst F c.in-Some.ensures.items c.loop-step.invariant.checks.known)).1.0
