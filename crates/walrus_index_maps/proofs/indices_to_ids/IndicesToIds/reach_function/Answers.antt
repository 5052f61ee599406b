use Rattle.std.proofs.Common.{◌∙◌, ℕ, List, ap}
use Rattle.walrus_index_maps.specs.Maps.{Ids}
use Rattle.walrus_index_maps.specs.Views.{ids}
use Rattle.walrus_index_maps.proofs.MapLemmas.{one_more_list}
use Rattle.walrus_index_maps.proofs.indices_to_ids.IndicesToIds.reach_function.Goals as goal

pub loop-self-preserved : goal.loop-self-preserved
loop-self-preserved c =
    let now : Ids = ids c.loop-self.self in
    ap (λ (l : ℕ → List ℕ). record now { locals = l }) (rw c.in_ok-push.ensures.items (one_more_list c.loop-self.self.locals.items c.new.result c.new.ensures)) ∙ c.loop-self.invariant
