use Rattle.std.proofs.Common.{drop}
use Rattle.std.specs.Prelude.{◌↔◌}
use Rattle.std.specs.HashSet.{contains}
use Rattle.walrus_arena.specs.contracts.id.IdPartialEq.TheImpl as id_eq
use Rattle.walrus_arena.specs.contracts.id.LocalSpace.{the_row as local_space}
use Rattle.walrus_tree.specs.Trees.{AreDistinct}
use Rattle.walrus_refusals.proofs.DistinctLemmas.{Rest}
use Rattle.walrus_refusals.proofs.arguments.are_distinct.Given as goal

abbrev pub invariant-loop-id : goal.invariant-loop-id
invariant-loop-id l = AreDistinct l.ids ↔ Rest (λ k. contains (id_eq.eq-value local_space).it l.met k) (drop l.id-index l.ids)
