use Rattle.std.proofs.Common.{◌≡◌, take}
use Rattle.walrus_body_locals.specs.Named.{kept_numbers}
use Rattle.walrus_body_locals.proofs.named.flagged.Given as goal

abbrev pub invariant-loop-at : goal.invariant-loop-at
invariant-loop-at l = l.numbers.items ≡ kept_numbers 0 (take l.at l.fn.flags)
