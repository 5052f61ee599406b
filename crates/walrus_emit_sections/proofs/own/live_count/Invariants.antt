use Rattle.std.proofs.Common.{◌≡◌, ◌+◌, length}
use Rattle.walrus_collections.specs.LookUps.{items}
use Rattle.walrus_emit_sections.proofs.own.live_count.Given as goal

abbrev pub invariant-loop : goal.invariant-loop
invariant-loop g l = record {
  can : (goal.iterator-loop g).can_next l.iterator';
  ends : (goal.iterator-loop g).is_finite l.iterator';
  left : length (items l.all) ≡ l.count + length l.iterator';
}
