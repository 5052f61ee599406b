use Rattle.std.specs.Prelude.{◌≡◌, map}
use Rattle.walrus_index_maps.specs.Runs.{run_from}
use Rattle.walrus_emit_numbers.specs.Order.{key_at}
use Rattle.walrus_emit_numbers.proofs.order.keys_of.Given as goal

abbrev pub invariant-loop-at : goal.invariant-loop-at
invariant-loop-at l = l.keys.items ≡ map (key_at l.facts) (run_from 0 l.at)
