use Rattle.std.proofs.Common.{ℕ, ◌≡◌, [], List, length, sym, ap, subst, ◌∙◌}
use Rattle.std.proofs.lemmas.List.{length-replicate}
use Rattle.walrus_tree.specs.declared.marks.Mark.{Mark}
use Rattle.walrus_tree.specs.declared.marks.Mark.TheVariants.{Fresh}
use Rattle.walrus_tree.specs.declared.steps.Step.{Step}
use Rattle.walrus_tree.specs.declared.steps.Step.TheVariants.{Enter}
use Rattle.walrus_tree.specs.Testing.{mark_at, opened, Goes, Marked}
use Rattle.walrus_tree.proofs.Goings.{replicated_fresh, tree_goes, goes_tree, marked_start}
use Rattle.walrus_tree.proofs.check.check_seqs.Goals as goal

pub loop-step-init : goal.loop-step-init
loop-step-init c =
    let b = c.args.seqs.now in
    let entry = c.args.entry in
    let first = Enter entry in
    let items = c.in_ok-marks.ensures.items_if_clones_equal (λ y e. e) in
    let N : List Mark → Type 0 = λ ns. (k : ℕ) → mark_at ns k ≡ Fresh in
    let fresh = subst N (sym items) (replicated_fresh (length b)) in
    let steps = c.in_ok-steps.ensures.items in
    let ms = c.in_ok-marks.marks.items in
    let M : List Step → Type 0 = λ fs. Marked ms 0 (opened [] fs) in
    let G : List Step → Type 0 = Goes b ms in
    record {
      sized = ap length items ∙ length-replicate (length b) Fresh;
      marked = subst M (sym steps) (marked_start b ms entry fresh);
      forth = λ t. subst G (sym steps) (tree_goes b ms entry fresh t);
      back = λ g. goes_tree b ms entry fresh (subst G steps g);
    }
