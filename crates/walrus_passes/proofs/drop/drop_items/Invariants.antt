use Rattle.std.proofs.Common.{◌<◌}
use Rattle.walrus_roots.specs.Items.{item}
use Rattle.walrus_passes.specs.Keeping.{IsHeld}
use Rattle.walrus_passes.specs.Part.{RestAmong}
use Rattle.walrus_passes.proofs.drop.drop_items.Given as goal

abbrev pub invariant-loop-index : goal.invariant-loop-index
invariant-loop-index g l = RestAmong (λ k. k < l.index) (λ k _. IsHeld l.kept (item l.space k)) l.fn.items l.items
