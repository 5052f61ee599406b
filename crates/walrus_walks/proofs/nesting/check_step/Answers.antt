use Rattle.std.proofs.Common.{ℕ, ◌<◌, ◌≤◌, length, ◌++◌, ◌∷◌, [], subst, sym, arith}
use Rattle.std.specs.Prelude.{slice_set}
use Rattle.walrus_walks.specs.declared.nesting.Mark.TheVariants.{Done}
use Rattle.walrus_walks.specs.declared.steps.Step.{Step}
use Rattle.walrus_walks.specs.Checks.{Checks, IsKnown, work}
use Rattle.walrus_walks.proofs.Transitions.{checks_leave, leaves_less}
use Rattle.walrus_walks.proofs.nesting.check_step.Goals as goal

pub returns-in-Resume-clause-checks : goal.returns-in-Resume-clause-checks
returns-in-Resume-clause-checks c start h =
    let b = c.args.seqs.now in
    let ms = c.args.marks.now in
    let fs = c.args.stack.now.items in
    let known : c.in-Resume.id < length b = subst (IsKnown b) c.in-Resume.is c.requires.known in
    let F : Step → Type 0 = λ f. Checks b start ms (fs ++ f ∷ []) in
    let done = checks_leave b start ms fs c.in-Resume.id c.in-Resume.field-1 (omega arith) known (subst F c.in-Resume.is h) in
    let K : ℕ → Type 0 = λ i. Checks b start (slice_set ms i Done) fs in
    subst K (sym c.index.ensures) done

pub returns-in-Resume-clause-less : goal.returns-in-Resume-clause-less
returns-in-Resume-clause-less c =
    let b = c.args.seqs.now in
    let ms = c.args.marks.now in
    let known : c.in-Resume.id < length b = subst (IsKnown b) c.in-Resume.is c.requires.known in
    let K : ℕ → Type 0 = λ i. work b (slice_set ms i Done) ≤ work b ms in
    let less = subst K (sym c.index.ensures) (leaves_less b ms c.in-Resume.id known (omega arith)) in
    omega (arith, less)
