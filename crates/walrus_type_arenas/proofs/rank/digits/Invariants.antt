use Rattle.std.proofs.Common.{◌≡◌, ◌+◌, ◌^◌, drop}
use Rattle.walrus_type_arenas.specs.Ranks.{digits}
use Rattle.walrus_type_arenas.proofs.rank.digits.Given as goal

abbrev pub invariant-loop-value : goal.invariant-loop-value
invariant-loop-value l = l.rank + digits (drop l.value-index l.values) l.weight ≡ digits l.values (2 ^ 57)
