use Rattle.walrus_arena.specs.Arena.{entries}
use Rattle.walrus_module.specs.walrus_collections.LookUps.{local_entries}
use Rattle.walrus_emit_numbers.proofs.Zips.{Completes}
use Rattle.walrus_emit_numbers.proofs.facts.facts_of.Given as goal

abbrev pub invariant-loop-function : goal.invariant-loop-function
invariant-loop-function l = record {
  can : goal.iterator-loop-function.can_next l.function-iterator;
  ends : goal.iterator-loop-function.is_finite l.function-iterator;
  known : Completes (local_entries (entries l.functions)) l.function-iterator l.facts.items;
}
