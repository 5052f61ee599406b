use Rattle.std.proofs.Common.{◌≡◌}
use Rattle.walrus_types.proofs.table.look_ahead.Given as goal

abbrev pub invariant-loop-at : goal.invariant-loop-at
invariant-loop-at l = l.index ≡ l.fn.index
