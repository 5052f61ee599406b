use Rattle.std.proofs.Common.{take}
use Rattle.walrus_body_locals.proofs.Choosing.{Flagged}
use Rattle.walrus_body_locals.proofs.named.by_flags.Given as goal

abbrev pub invariant-loop-number : goal.invariant-loop-number
invariant-loop-number l = Flagged l.fn.count (take l.number-index l.numbers) l.flags.items
