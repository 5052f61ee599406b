use Rattle.std.proofs.Common.{◌≡◌, ◌∙◌, ◌+◌, ◌-◌, ◌<◌, ℕ, zero, suc, List, [], ◌∷◌, ◌++◌, length, reverse, Some, sym, ap, subst, arith}
use Rattle.std.proofs.lemmas.List.{length-append, nil_from_length}
use Rattle.std.proofs.lemmas.Option.{slice_get_within}
use Rattle.std.specs.Prelude.{slice_get, slice_index_or}
use Rattle.walrus_handlers.specs.walrus_tree.Trees.{IsTree}
use Rattle.walrus_handlers.specs.walrus_tree.walrus_walks.Tree.{children_in}
use Rattle.walrus_instr.specs.declared.seq.InstrSeq.{InstrSeq}
use Rattle.walrus_handler_types.proofs.Ordering.{Follows, GoesOn, all_done, follow, starts}
use Rattle.walrus_handler_types.proofs.order.tree_order.Goals as goal

there : (xs : List InstrSeq) (k : ℕ) (d y : InstrSeq) → slice_get xs k ≡ Some y → slice_index_or xs k d ≡ y
there [] k d y e = absurd cc
there (x ∷ xs) zero d y e = cc
there (x ∷ xs) (suc k) d y e = there xs k d y e

smaller : (n m k : ℕ) → m < n → k ≡ m + 1 → n - k < n - m
smaller n m k lt e = omega (arith, lt, e)

pub loop-id-init : goal.loop-id-init
loop-id-init c =
    let b = c.args.seqs.now in
    subst (λ (l : List ℕ). GoesOn b l c.in_ok-left.left.items) (sym c.new-order.ensures.items)
    (subst (GoesOn b []) (sym (c.in_ok-left.ensures.items ∙ ap (λ (k : ℕ). k ∷ []) c.from_index.ensures)) (starts b))

pub bounds-seqs-index : goal.bounds-seqs-index
bounds-seqs-index c =
    let b = c.args.seqs.now in
    let f = follow b c.requires c.loop-id.order.items c.loop-id.left.items c.pop.new.self.items c.in-Some.id c.in-Some.ensures.items c.loop-id.invariant in
    let lt = slice_get_within b c.in-Some.id f.seq f.found in
    let e = c.index.ensures in
    omega (arith, lt, e)

pub loop-id-smaller : goal.loop-id-smaller
loop-id-smaller c =
    let b = c.args.seqs.now in
    let f = follow b c.requires c.loop-id.order.items c.loop-id.left.items c.pop.new.self.items c.in-Some.id c.in-Some.ensures.items c.loop-id.invariant in
    smaller (length b) (length c.loop-id.order.items) (length c.push.new.self.items) f.less (ap length c.in_ok-push.ensures.items ∙ length-append c.loop-id.order.items (c.in-Some.id ∷ []))

pub loop-id-preserved : goal.loop-id-preserved
loop-id-preserved c =
    let b = c.args.seqs.now in
    let f = follow b c.requires c.loop-id.order.items c.loop-id.left.items c.pop.new.self.items c.in-Some.id c.in-Some.ensures.items c.loop-id.invariant in
    let d : InstrSeq = c.index-seqs-index.result in
    let is : slice_index_or b c.index.result d ≡ f.seq = ap (λ (k : ℕ). slice_index_or b k d) c.index.ensures ∙ there b c.in-Some.id d f.seq f.found in
    let held = c.as_slice.ensures.value ∙ ap (λ (s : InstrSeq). s.instrs.items) is in
    let left : c.push_held.new.left.items ≡ c.pop.new.self.items ++ reverse (children_in f.seq.instrs.items) = c.in_ok-push_held.ensures ∙ ap (λ is. c.pop.new.self.items ++ reverse (children_in is)) held in
    subst (λ (l : List ℕ). GoesOn b l c.push_held.new.left.items) (sym c.in_ok-push.ensures.items) (subst (GoesOn b (c.loop-id.order.items ++ c.in-Some.id ∷ [])) (sym left) f.next)

pub returns : goal.returns
returns c = all_done c.args.seqs.now c.loop-id.order.items c.loop-id.left.items (nil_from_length c.loop-id.left.items (sym c.loop-id.left.ok.0 ∙ c.in_default.ensures.cases.0)) c.loop-id.invariant
