use Rattle.std.proofs.Common.{◌≡◌, sym, arith, ◌∙◌}
use Rattle.walrus_tree.specs.declared.marks.Mark.TheVariants.{Fresh, Open, Done}
use Rattle.walrus_tree.proofs.Marking.{mark_read}
use Rattle.walrus_tree.proofs.Goings.{on_true, met_of, goes_unknown, goes_met, wrong_label, right_labels, marked_inside, enters_less, depth_most}
use Rattle.walrus_tree.proofs.check.enter.Goals as goal

pub returns-then-index-seqs-clause-tested : goal.returns-then-index-seqs-clause-tested
returns-then-index-seqs-clause-tested c = goes_unknown c.args.seqs.now c.args.marks.now c.args.steps.now.items c.args.id (omega arith)

pub overflow_add-depth : goal.overflow_add-depth
overflow_add-depth c =
    let most = depth_most c.args.depth.now c.args.steps.now.items c.requires.marked.counted in
    let len = c.in_ok-push-in-Fresh.ensures.len in
    let ok = c.args.steps.now.ok.0 in
    omega (arith, most, len, ok)

pub returns-in-Open-clause-tested : goal.returns-in-Open-clause-tested
returns-in-Open-clause-tested c =
    let ms = c.args.marks.now in
    let at = mark_read ms c.args.id c.index-index.result _ Open c.index-index.ensures (omega arith) c.in-Open.is in
    goes_met c.args.seqs.now ms c.args.steps.now.items c.args.id (λ f. (let e : Fresh ≡ Open = sym f ∙ at in cc))

pub returns-in-Done-clause-tested : goal.returns-in-Done-clause-tested
returns-in-Done-clause-tested c =
    let ms = c.args.marks.now in
    let at = mark_read ms c.args.id c.index-index.result _ Done c.index-index.ensures (omega arith) c.in-Done.is in
    goes_met c.args.seqs.now ms c.args.steps.now.items c.args.id (λ f. (let e : Fresh ≡ Done = sym f ∙ at in cc))

pub returns-then-not-branch-clause-tested : goal.returns-then-not-branch-clause-tested
returns-then-not-branch-clause-tested c =
    let met = met_of c.args.seqs.now c.args.marks.now c.args.id _ _ _ _ c.requires.sized (omega arith) c.index-index.ensures c.in-Fresh.is c.index-seqs-index.is c.as_slice-instrs.ensures.value in
    wrong_label c.args.seqs.now c.args.marks.now c.args.steps.now.items c.args.id c.index-seqs-index.result c.args.depth.now c.requires.marked _ _ met (sym c.if-not-branch.true ∙ c.in_ok-look_through-in-Fresh.ensures.within)

pub returns-else-not-branch-clause-marked : goal.returns-else-not-branch-clause-marked
returns-else-not-branch-clause-marked c =
    let met = met_of c.args.seqs.now c.args.marks.now c.args.id _ _ _ _ c.requires.sized (omega arith) c.index-index.ensures c.in-Fresh.is c.index-seqs-index.is c.as_slice-instrs.ensures.value in
    marked_inside c.args.seqs.now c.args.marks.now c.args.steps.now.items c.args.id c.index-seqs-index.result c.args.depth.now c.requires.marked _ _ met c.push.new.self.items c.look_through.new.steps.items c.in_ok-push-in-Fresh.ensures.items (on_true _ _ c.if-not-branch.false c.in_ok-look_through-in-Fresh.ensures.pushed)

pub returns-else-not-branch-clause-tested : goal.returns-else-not-branch-clause-tested
returns-else-not-branch-clause-tested c =
    let met = met_of c.args.seqs.now c.args.marks.now c.args.id _ _ _ _ c.requires.sized (omega arith) c.index-index.ensures c.in-Fresh.is c.index-seqs-index.is c.as_slice-instrs.ensures.value in
    right_labels c.args.seqs.now c.args.marks.now c.args.steps.now.items c.args.id c.index-seqs-index.result c.args.depth.now c.requires.marked _ _ met (sym c.if-not-branch.false ∙ c.in_ok-look_through-in-Fresh.ensures.within) c.push.new.self.items c.look_through.new.steps.items c.in_ok-push-in-Fresh.ensures.items (on_true _ _ c.if-not-branch.false c.in_ok-look_through-in-Fresh.ensures.pushed)

pub returns-else-not-branch-clause-less : goal.returns-else-not-branch-clause-less
returns-else-not-branch-clause-less c =
    let met = met_of c.args.seqs.now c.args.marks.now c.args.id _ _ _ _ c.requires.sized (omega arith) c.index-index.ensures c.in-Fresh.is c.index-seqs-index.is c.as_slice-instrs.ensures.value in
    enters_less c.args.seqs.now c.args.marks.now c.args.steps.now.items c.args.id c.index-seqs-index.result c.args.depth.now c.requires.marked _ _ met c.push.new.self.items c.look_through.new.steps.items c.in_ok-push-in-Fresh.ensures.items (on_true _ _ c.if-not-branch.false c.in_ok-look_through-in-Fresh.ensures.pushed)
