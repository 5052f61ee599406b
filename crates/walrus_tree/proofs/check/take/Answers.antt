use Rattle.std.proofs.Common.{ℕ, ◌≤◌, ◌++◌, ◌∷◌, [], List, sym, ap, subst, arith, ◌∙◌}
use Rattle.std.specs.Prelude.{slice_set}
use Rattle.walrus_tree.specs.declared.marks.Mark.{Mark}
use Rattle.walrus_tree.specs.declared.marks.Mark.TheVariants.{Done}
use Rattle.walrus_tree.specs.declared.steps.Step.{Step}
use Rattle.walrus_tree.specs.Testing.{opened, Goes, Marked, work}
use Rattle.walrus_tree.proofs.Marking.{mark_known, work_leave}
use Rattle.walrus_tree.proofs.Goings.{around_entry, exit_open, exit_deep, exit_marked, goes_leave}
use Rattle.walrus_tree.proofs.check.take.Goals as goal

pub enter-requires-clause-marked : goal.enter-requires-clause-marked
enter-requires-clause-marked c =
    let fs = c.args.steps.now.items in
    let F : List ℕ → Type 0 = Marked c.args.marks.now c.args.depth.now in
    subst F (ap (λ (f : Step). opened [] (fs ++ f ∷ [])) c.in-Enter.is ∙ around_entry fs c.in-Enter.id) c.requires.marked

pub leave-requires-clause-known : goal.leave-requires-clause-known
leave-requires-clause-known c =
    let fs = c.args.steps.now.items in
    let ms = c.args.marks.now in
    let F : Step → Type 0 = λ f. Marked ms c.args.depth.now (opened [] (fs ++ f ∷ [])) in
    mark_known ms c.in-Leave.id (exit_open ms c.args.depth.now fs c.in-Leave.id (subst F c.in-Leave.is c.requires.marked))

pub leave-requires-clause-deep : goal.leave-requires-clause-deep
leave-requires-clause-deep c =
    let fs = c.args.steps.now.items in
    let ms = c.args.marks.now in
    let F : Step → Type 0 = λ f. Marked ms c.args.depth.now (opened [] (fs ++ f ∷ [])) in
    exit_deep ms c.args.depth.now fs c.in-Leave.id (subst F c.in-Leave.is c.requires.marked)

pub returns-in-Leave-clause-marked : goal.returns-in-Leave-clause-marked
returns-in-Leave-clause-marked c =
    let fs = c.args.steps.now.items in
    let ms = c.args.marks.now in
    let F : Step → Type 0 = λ f. Marked ms c.args.depth.now (opened [] (fs ++ f ∷ [])) in
    let M : List Mark → Type 0 = λ ns. Marked ns c.leave.new.depth (opened [] fs) in
    let D : ℕ → Type 0 = λ d. Marked (slice_set ms c.in-Leave.id Done) d (opened [] fs) in
    subst M (sym c.leave.ensures.marks) (subst D (sym c.leave.ensures.depth) (exit_marked ms c.args.depth.now fs c.in-Leave.id (subst F c.in-Leave.is c.requires.marked)))

pub returns-in-Leave-clause-tested : goal.returns-in-Leave-clause-tested
returns-in-Leave-clause-tested c =
    let b = c.args.seqs.now in
    let fs = c.args.steps.now.items in
    let ms = c.args.marks.now in
    let k = c.in-Leave.id in
    let F : Step → Type 0 = λ f. Marked ms c.args.depth.now (opened [] (fs ++ f ∷ [])) in
    let open_is = exit_open ms c.args.depth.now fs k (subst F c.in-Leave.is c.requires.marked) in
    let r = goes_leave b ms fs k (mark_known ms k open_is) open_is in
    let G : Step → Type 0 = λ f. Goes b ms (fs ++ f ∷ []) in
    let N : List Mark → Type 0 = λ ns. Goes b ns fs in
    (λ h. subst N (sym c.leave.ensures.marks) (r.0 (subst G c.in-Leave.is h)), λ h. subst G (sym c.in-Leave.is) (r.1 (subst N c.leave.ensures.marks h)))

pub returns-in-Leave-clause-less : goal.returns-in-Leave-clause-less
returns-in-Leave-clause-less c =
    let b = c.args.seqs.now in
    let W : List Mark → Type 0 = λ ns. work b ns ≤ work b c.args.marks.now in
    let less = subst W (sym c.leave.ensures.marks) (work_leave b c.args.marks.now c.in-Leave.id) in
    omega (arith, less)
