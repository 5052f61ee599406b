use Rattle.std.proofs.Common.{◌≡◌, [], replicate}
use Rattle.walrus_marks.specs.Claims.{ids_of}
use Rattle.walrus_marks.proofs.claims.Claims.new.Given as goal

abbrev pub invariant-loop : goal.invariant-loop
invariant-loop l = ids_of l.sets.items ≡ replicate l.counter []
