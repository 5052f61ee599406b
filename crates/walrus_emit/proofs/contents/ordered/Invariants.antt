use Rattle.std.specs.Prelude.{◌≡◌, take}
use Rattle.walrus_emit_numbers.specs.Numbers.{functions_at}
use Rattle.walrus_emit.proofs.contents.ordered.Given as goal

abbrev pub invariant-loop-at : goal.invariant-loop-at
invariant-loop-at l = l.functions.items ≡ functions_at l.facts (take l.at-index l.order)
