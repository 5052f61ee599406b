use Rattle.std.proofs.Common.{◌≡◌, ◌∙◌, ℕ, List, [], ◌∷◌, ◌++◌, suc, length, sym, ap, subst, arith}
use Rattle.std.specs.Vec.Iter.{into_iter_items}
use Rattle.std.proofs.lemmas.List.{nil_from_length}
use Rattle.walrus_type_index.specs.Flat.{slots}
use Rattle.walrus_type_index.specs.Forest.{AreTrees}
use Rattle.walrus_type_index.proofs.ForestLemmas.{Halving, halving-first, halving-more, halving-last}
use Rattle.walrus_type_index.proofs.forest.halved.Goals as goal

pub loop-top-init : goal.loop-top-init
loop-top-init c =
    let it : into_iter_items c.into_iter-top-iterator.result ≡ c.args.tops.items = c.into_iter-top-iterator.ensures.into_iter_gives.0 in
    let n : length (into_iter_items c.into_iter-top-iterator.result) ≡ length c.args.tops.items = ap (λ (xs : List ℕ). length xs) it in
    let e : length c.args.wide.items ≡ 0 = ap (λ (xs : List ℕ). length xs) c.requires.empty in
    record {
      room = omega (arith, c.requires.room, n, e, c.args.wide.ok.0);
      halved = λ trees rest are. halving-first (slots c.args.nodes.now) c.args.shift c.args.wide.items (into_iter_items c.into_iter-top-iterator.result) c.args.last trees rest c.requires.empty
          (subst (λ (ts : List ℕ). AreTrees (slots c.args.nodes.now) ts c.args.last trees rest) (sym it) are);
    }

pub loop-top-preserved : goal.loop-top-preserved
loop-top-preserved c =
    let at = c.loop-top in
    let wide = at.wide.items in
    let it : into_iter_items at.top-iterator ≡ c.in-Some.top ∷ into_iter_items c.next.new.self = c.in-Some.ensures.steps.0 in
    let n : length (into_iter_items at.top-iterator) ≡ suc (length (into_iter_items c.next.new.self)) = ap (λ (xs : List ℕ). length xs) it in
    let w = c.push_reserved-in-loop-top.ensures.items ∙ ap (λ (xs : List ℕ). xs ++ c.split-before.result.1 ∷ []) c.push_reserved.ensures.items in
    record {
      room = omega (arith, at.invariant.room, n, c.push_reserved.ensures.len, c.push_reserved-in-loop-top.ensures.len, c.push_reserved.ensures.capacity, c.push_reserved-in-loop-top.ensures.capacity);
      halved = λ trees rest are.
          let h = subst (λ (ts : List ℕ). Halving (slots at.nodes) c.args.shift wide ts c.args.last trees rest) it (at.invariant.halved trees rest are) in
          let all = halving-more at.nodes (slots c.split-before.new.nodes) c.args.shift wide c.in-Some.top (into_iter_items c.next.new.self) c.args.last trees rest c.len.result _ c.split-before.result.0 c.split-before.result.1
          (c.len.ensures ∙ at.wide.ok.0) (sym at.auto.nodes) c.split-before.ensures h in
          subst (λ (xs : List ℕ). Halving (slots c.split-before.new.nodes) c.args.shift xs (into_iter_items c.next.new.self) c.args.last trees rest) (sym w) all;
    }

pub returns : goal.returns
returns c trees rest are =
    let at = c.loop-top in
    halving-last at.nodes (slots c.split-before-2.new.nodes) c.args.shift at.wide.items (into_iter_items at.top-iterator) c.args.last trees rest c.len-2.result _ c.split-before-2.result.0 c.split-before-2.result.1
    c.push_reserved-2.new.self.items (c.len-2.ensures ∙ at.wide.ok.0) (sym at.auto.nodes) (nil_from_length (into_iter_items at.top-iterator) (sym at.top-iterator.rest.ok.0 ∙ c.in-None.ensures.steps.0))
    c.push_reserved-2.ensures.items c.split-before-2.ensures (at.invariant.halved trees rest are)
