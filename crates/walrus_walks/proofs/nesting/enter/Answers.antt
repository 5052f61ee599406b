use Rattle.std.proofs.Common.{◌≡◌, ℕ, ◌+◌, ◌<◌, length, ◌++◌, ◌∷◌, List, refl, subst, sym, arith, ap, ◌∙◌, get_or}
use Rattle.std.specs.Prelude.{slice_set}
use Rattle.std.proofs.lemmas.Option.{slice_get_read}
use Rattle.walrus_instr.specs.declared.seq.InstrSeq.{InstrSeq}
use Rattle.walrus_walks.specs.declared.nesting.Mark.TheVariants.{Fresh, Open, Done}
use Rattle.walrus_walks.specs.declared.steps.Step.{Step}
use Rattle.walrus_walks.specs.declared.steps.Step.TheVariants.{Resume}
use Rattle.walrus_walks.specs.Checks.{Checks, pushed, work}
use Rattle.walrus_walks.proofs.Transitions.{checks_skip, checks_enter, checks_again, checks_unknown, mark_read, all_pushed, enters_less}
use Rattle.walrus_walks.proofs.nesting.enter.Goals as goal

pub returns-then-index-seqs-clause-checks : goal.returns-then-index-seqs-clause-checks
returns-then-index-seqs-clause-checks c start h = checks_unknown c.args.seqs.now start c.args.marks.now c.args.stack.now.items c.args.id (omega arith) h

pub returns-in-Done-clause-checks : goal.returns-in-Done-clause-checks
returns-in-Done-clause-checks c start h =
    let ms = c.args.marks.now in
    let within : c.args.id < length ms = omega arith in
    checks_skip c.args.seqs.now start ms c.args.stack.now.items c.args.id (mark_read ms c.args.id c.index-index.result _ Done c.index-index.ensures within c.in-Done.is) h

pub returns-in-Open-clause-checks : goal.returns-in-Open-clause-checks
returns-in-Open-clause-checks c start h =
    let ms = c.args.marks.now in
    let within : c.args.id < length ms = omega arith in
    checks_again c.args.seqs.now start ms c.args.stack.now.items c.args.id (mark_read ms c.args.id c.index-index.result _ Open c.index-index.ensures within c.in-Open.is) h

pub returns-in_ok-push_all-in-Fresh-clause-checks : goal.returns-in_ok-push_all-in-Fresh-clause-checks
returns-in_ok-push_all-in-Fresh-clause-checks c start h =
    let b = c.args.seqs.now in
    let ms = c.args.marks.now in
    let k = c.args.id in
    let fs = c.args.stack.now.items in
    let s = c.index-seqs-index.result in
    let within : k < length ms = omega arith in
    let fresh = mark_read ms k c.index-index.result _ Fresh c.index-index.ensures within c.in-Fresh.is in
    let G : ℕ → Type 0 = λ i. s ≡ get_or b i s in
    let e = slice_get_read b (length b) k s refl (omega arith) (subst G c.index-index.ensures c.index-seqs-index.is) in
    let entered = checks_enter b start ms fs k s e within fresh h in
    let items : c.push_all.new.stack.items ≡ fs ++ Resume k 0 ∷ pushed s.instrs.items = all_pushed fs c.push.new.self.items c.push_all.new.stack.items k s.instrs.items c.as_slice.result.now c.in_ok-push_all-in-Fresh.ensures c.in_ok-push-in-Fresh.ensures.items (c.as_slice.ensures.value ∙ ap (λ (t : InstrSeq). t.instrs.items) (sym c.index-seqs-index.is)) in
    let F : List Step → Type 0 = λ gs. Checks b start (slice_set ms c.index-index.result Open) gs in
    let K : ℕ → Type 0 = λ i. Checks b start (slice_set ms i Open) (fs ++ Resume k 0 ∷ pushed s.instrs.items) in
    subst F (sym items) (subst K (sym c.index-index.ensures) entered)

pub returns-in_ok-push_all-in-Fresh-clause-less : goal.returns-in_ok-push_all-in-Fresh-clause-less
returns-in_ok-push_all-in-Fresh-clause-less c =
    let b = c.args.seqs.now in
    let ms = c.args.marks.now in
    let k = c.args.id in
    let fs = c.args.stack.now.items in
    let s = c.index-seqs-index.result in
    let within : k < length ms = omega arith in
    let fresh = mark_read ms k c.index-index.result _ Fresh c.index-index.ensures within c.in-Fresh.is in
    let G : ℕ → Type 0 = λ i. s ≡ get_or b i s in
    let e = slice_get_read b (length b) k s refl (omega arith) (subst G c.index-index.ensures c.index-seqs-index.is) in
    let items : c.push_all.new.stack.items ≡ fs ++ Resume k 0 ∷ pushed s.instrs.items = all_pushed fs c.push.new.self.items c.push_all.new.stack.items k s.instrs.items c.as_slice.result.now c.in_ok-push_all-in-Fresh.ensures c.in_ok-push-in-Fresh.ensures.items (c.as_slice.ensures.value ∙ ap (λ (t : InstrSeq). t.instrs.items) (sym c.index-seqs-index.is)) in
    let K : ℕ → Type 0 = λ i. work b (slice_set ms i Open) + length c.push_all.new.stack.items < work b ms + length fs + 1 in
    subst K (sym c.index-index.ensures) (enters_less b ms fs c.push_all.new.stack.items k s e within fresh items)
