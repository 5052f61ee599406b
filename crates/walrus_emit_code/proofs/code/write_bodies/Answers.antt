use Rattle.std.proofs.Common.{◌∙◌, refl, slice_index_or}
use Rattle.walrus_index_maps.specs.Views.{indices}
use Rattle.walrus_emit_code.proofs.CodeLemmas.{body_next, keeps_both, still_there}
use Rattle.walrus_emit_code.proofs.PlaceLemmas.{all_located, all_ranged, placed_next}
use Rattle.walrus_emit_code.proofs.code.write_bodies.Goals as goal

pub loop-at-preserved : goal.loop-at-preserved
loop-at-preserved c = record {
  keeps = keeps_both _ _ _ c.loop-at.invariant.keeps c.in_ok-write_one.ensures.keeps;
  wrote = body_next c.args.code.now.locals.now c.args.code.now.functions.now c.args.code.now.facts.now c.args.code.now.order.now c.loop-at.at-index 0
      (slice_index_or c.args.code.now.order.now c.loop-at.at-index 0) c.index-code-at.result
      (slice_index_or c.args.code.now.facts.now (slice_index_or c.args.code.now.order.now c.loop-at.at-index 0) c.index-code-at.result) (indices c.args.emission.now.indices) (indices c.loop-at.emission.indices)
      (indices c.write_one.new.emission.indices) c.args.emission.now.bytes.items c.loop-at.emission.bytes.items c.write_one.new.emission.bytes.items c.loop-at-test.true refl
      (c.requires.within c.loop-at.at-index 0 c.loop-at-test.true) refl c.loop-at.invariant.wrote c.in_ok-write_one.ensures.numbered c.in_ok-write_one.ensures.written;
  placed = placed_next c.args.code.now.locals.now c.args.code.now.functions.now c.args.code.now.keeps_places c.loop-at.out.keeps_places c.args.code.now.facts.now c.args.code.now.order.now c.loop-at.at-index 0
      (slice_index_or c.args.code.now.order.now c.loop-at.at-index 0) c.index-code-at.result
      (slice_index_or c.args.code.now.facts.now (slice_index_or c.args.code.now.order.now c.loop-at.at-index 0) c.index-code-at.result) (indices c.args.emission.now.indices) (indices c.loop-at.emission.indices)
      (indices c.write_one.new.emission.indices) c.args.start c.args.emission.now.bytes.items c.loop-at.emission.bytes.items c.write_one.new.emission.bytes.items
      c.args.emission.now.locations.items c.loop-at.emission.locations.items c.write_one.new.emission.locations.items
      c.args.emission.now.ranges.items c.loop-at.emission.ranges.items c.write_one.new.emission.ranges.items c.loop-at-test.true refl
      (c.requires.within c.loop-at.at-index 0 c.loop-at-test.true) refl c.loop-at.invariant.placed c.loop-at.invariant.same
      (still_there _ _ c.args.start c.requires.start c.loop-at.invariant.keeps) c.in_ok-write_one.ensures.numbered c.in_ok-write_one.ensures.written
      c.in_ok-write_one.ensures.located c.in_ok-write_one.ensures.ranged;
  same = c.in_ok-write_one.ensures.same ∙ c.loop-at.invariant.same;
}

pub returns-clause-located : goal.returns-clause-located
returns-clause-located c =
    all_located c.args.code.now.locals.now c.args.code.now.functions.now c.args.code.now.keeps_places c.args.code.now.facts.now c.args.code.now.order.now c.loop-at.at-index (indices c.args.emission.now.indices)
    (indices c.loop-at.emission.indices) _ _ c.args.emission.now.locations.items c.loop-at.emission.locations.items c.args.emission.now.ranges.items c.loop-at.emission.ranges.items c.loop-at-test.false c.loop-at.invariant.placed

pub returns-clause-ranged : goal.returns-clause-ranged
returns-clause-ranged c =
    all_ranged c.args.code.now.locals.now c.args.code.now.functions.now c.args.code.now.keeps_places c.args.code.now.facts.now c.args.code.now.order.now c.loop-at.at-index (indices c.args.emission.now.indices)
    (indices c.loop-at.emission.indices) _ _ c.args.emission.now.locations.items c.loop-at.emission.locations.items c.args.emission.now.ranges.items c.loop-at.emission.ranges.items c.loop-at-test.false c.loop-at.invariant.placed
