use Rattle.std.proofs.Common.{◌≡◌, length}
use Rattle.walrus_used.specs.walrus_module.Parts.{parts}
use Rattle.walrus_refusals.specs.Checks.{ArePast}
use Rattle.walrus_refusals.proofs.claims.past_claims.Given as goal

abbrev pub invariant-loop-index : goal.invariant-loop-index
invariant-loop-index g l = (length l.claims ≡ 10) × ArePast (parts l.input) l.index l.claims
