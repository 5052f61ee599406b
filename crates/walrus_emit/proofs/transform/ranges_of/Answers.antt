use Rattle.std.proofs.Common.{rules, ℕ, ◌≡◌, ◌∙◌, List, ap, map, subst}
use Rattle.std.proofs.lemmas.List.{take_all}
use Rattle.std.proofs.lemmas.List.Sorted.{answers_always}
use Rattle.std.specs.List.Sorted.{IsPermutation}
use Rattle.std.specs.declared.ops.Range.{Range}
use Rattle.walrus_emit.specs.Places.{range_from}
use Rattle.walrus_emit.proofs.transform.ranges_of.Goals as goal

pub returns : goal.returns
returns c =
    let is : c.loop-function.found.items ≡ map (range_from c.args.start) c.args.ranges.now =
    c.loop-function.invariant ∙ ap (map (range_from c.args.start)) (take_all c.loop-function.function-index c.args.ranges.now c.loop-function-test.false) in
    record {
      same = subst (λ (l : List (ℕ × Range ℕ)). IsPermutation l c.sort_by_key.new.self.items) is c.in_ok-sort_by_key.ensures.permutation;
      rising = c.in_ok-sort_by_key.ensures.sorted (λ (r : ℕ × Range ℕ). r.0) (answers_always _ _ _ (λ f a r q k. search rules));
    }
