use Rattle.std.proofs.Common.{◌∙◌, ◌<◌, ap, arith, length}
use Rattle.walrus_functions_into.proofs.PairLemmas.{goes_on, goes_past}
use Rattle.walrus_functions_into.proofs.bodies.pair_bodies.Goals as goal
use Rattle.walrus_functions_into.proofs.bodies.pair_bodies.Goals.{in-Some+in_ok-push, in_default}

pub loop-index-preserved : goal.loop-index-preserved
loop-index-preserved c =
    let slots = c.args.functions.now.slots in
    let lt : c.loop-index.index < length slots = omega (arith, c.loop-index-test.true, c.index-index-end.ensures, c.next_id.ensures) in
    elim c.match-body_for.branch [
      | in-Some+in_ok-push w ↦
          goes_on slots c.args.bodies.now c.loop-index.index _ _ _ c.loop-index.pairs.items c.match-body_for.pairs.items c.body_for.result w.in-Some.chunk c.body_for.ensures w.in-Some.is
          (ap (λ v. v.items) w.pairs-is ∙ w.in_ok-push.ensures.items) lt c.from_index-function.ensures (omega (arith, c.len.ensures, c.loop-index.pairs.ok.0)) (w.number-number.ensures ∙ c.from_index-function.ensures) c.loop-index.invariant
      | in_default w ↦
          goes_past slots c.args.bodies.now c.loop-index.index _ _ c.loop-index.pairs.items c.match-body_for.pairs.items c.body_for.result c.body_for.ensures w.in_default.is
          (ap (λ v. v.items) w.pairs-is) lt c.from_index-function.ensures (omega (arith, c.len.ensures, c.loop-index.pairs.ok.0)) c.loop-index.invariant
    ]
