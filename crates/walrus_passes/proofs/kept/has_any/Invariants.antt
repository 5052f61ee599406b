use Rattle.std.proofs.Common.{◌<◌, ℕ}
use Rattle.walrus_roots.specs.Items.{item}
use Rattle.walrus_refusals.specs.Checks.{IsMet}
use Rattle.walrus_passes.proofs.kept.has_any.Given as goal

abbrev pub invariant-loop-index : goal.invariant-loop-index
invariant-loop-index l = (id : ℕ) → id < l.index → IsMet l.marks (item l.space id) → ⊥
