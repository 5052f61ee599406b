use Rattle.std.proofs.Common.{◌<◌, Decides, ℕ, nat_eq}
use Rattle.std.specs.HashSet.{contains}
use Rattle.walrus_roots.specs.Items.{item}
use Rattle.walrus_passes.specs.Keeping.{IsHeld}
use Rattle.walrus_passes.proofs.used.set_of.Given as goal

abbrev pub invariant-loop-index : goal.invariant-loop-index
invariant-loop-index g l = (id : ℕ) → Decides (contains nat_eq l.set id) ((id < l.index) × IsHeld l.kept (item l.space id))
