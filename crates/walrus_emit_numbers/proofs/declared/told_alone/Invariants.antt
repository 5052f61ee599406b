use Rattle.std.specs.Prelude.{◌≡◌, filter}
use Rattle.walrus_index_maps.specs.Runs.{run_from}
use Rattle.walrus_emit_numbers.specs.Undeclared.{is_alone}
use Rattle.walrus_emit_numbers.proofs.declared.told_alone.Given as goal

abbrev pub invariant-loop-at : goal.invariant-loop-at
invariant-loop-at l = l.found.items ≡ filter (is_alone l.told.flags.items l.held.flags.items) (run_from 0 l.at)
