use Rattle.std.proofs.Common.{◌≡◌, map}
use Rattle.std.specs.List.{list_any}
use Rattle.walrus_collections.specs.LookUps.{items}
use Rattle.walrus_meaning.specs.Meaning.{own_segment}
use Rattle.walrus_emit_due.specs.DataCount.{waits}
use Rattle.walrus_emit_uses.proofs.data_count.has_passive.Given as goal

abbrev pub invariant-loop-segment : goal.invariant-loop-segment
invariant-loop-segment l = record {
  can : (goal.iterator-loop-segment).can_next l.segment-iterator;
  ends : (goal.iterator-loop-segment).is_finite l.segment-iterator;
  rest : list_any waits (map own_segment l.segment-iterator) ≡ list_any waits (map own_segment (items l.segments));
}
