use Rattle.std.proofs.Common.{◌≡◌, ◌+◌, ◌-◌, length}
use Rattle.walrus_index_maps.specs.Views.{ids}
use Rattle.walrus_index_maps.proofs.indices_to_ids.IndicesToIds.reach_function.Given as goal

abbrev pub invariant-loop-self : goal.invariant-loop-self
invariant-loop-self l = ids l.self ≡ ids l.initial.self

abbrev pub decreases-loop-self : goal.decreases-loop-self
decreases-loop-self l = l.at + 1 - length l.self.locals.items
