use Rattle.std.proofs.Common.{◌≤◌, ◌^◌}
use Rattle.walrus_lookups.proofs.SectionLemmas.{Past}
use Rattle.walrus_lookups.proofs.customs.past_ids.Given as goal

abbrev pub invariant-loop-id : goal.invariant-loop-id
invariant-loop-id g l = record {
  can : (goal.iterator-loop-id g).can_next l.id-iterator;
  ends : (goal.iterator-loop-id g).is_finite l.id-iterator;
  met : Past l.sections l.past l.id-iterator;
  bounded : l.past ≤ 2 ^ 32;
}
