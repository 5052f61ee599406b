use Rattle.std.proofs.Common.{◌<◌}
use Rattle.walrus_refusals.specs.walrus_used.walrus_module.Items.{brought}
use Rattle.walrus_passes.specs.Keeping.{IsHeld}
use Rattle.walrus_passes.specs.Part.{RestAmong}
use Rattle.walrus_passes.proofs.drop.drop_imports.Given as goal

abbrev pub invariant-loop-index : goal.invariant-loop-index
invariant-loop-index l = RestAmong (λ k. k < l.index) (λ _ import. IsHeld l.kept (brought import.kind)) l.fn.imports l.imports
