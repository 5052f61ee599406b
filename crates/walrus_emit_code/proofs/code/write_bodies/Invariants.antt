use Rattle.std.specs.Prelude.{◌≡◌, ◌-◌, drop, length}
use Rattle.walrus_operators.specs.Appended.{Keeps}
use Rattle.walrus_index_maps.specs.Views.{indices}
use Rattle.walrus_emit_code.specs.Code.{facts_at}
use Rattle.walrus_emit_code.proofs.CodeLemmas.{WroteBodies}
use Rattle.walrus_emit_code.proofs.PlaceLemmas.{PlacedBodies}
use Rattle.walrus_emit_code.proofs.code.write_bodies.Given as goal

abbrev pub invariant-loop-at : goal.invariant-loop-at
invariant-loop-at l = record {
  keeps : Keeps l.fn.emission.bytes.items l.emission.bytes.items;
  wrote : WroteBodies l.code.locals.now l.code.functions.now (facts_at l.code.facts.now l.order) (facts_at l.code.facts.now (drop l.at-index l.order)) (indices l.fn.emission.indices) (indices l.emission.indices) l.fn.emission.bytes.items l.emission.bytes.items;
  placed : PlacedBodies l.code.locals.now l.code.functions.now l.code.keeps_places (facts_at l.code.facts.now l.order) (facts_at l.code.facts.now (drop l.at-index l.order)) (indices l.fn.emission.indices) (indices l.emission.indices)
      (length l.fn.emission.bytes.items - l.start) (length l.emission.bytes.items - l.start) l.fn.emission.locations.items l.emission.locations.items l.fn.emission.ranges.items l.emission.ranges.items;
  same : l.out.keeps_places ≡ l.code.keeps_places;
}
