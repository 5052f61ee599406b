use Rattle.std.proofs.Common.{◌∙◌, ℕ, List, length, ap}
use Rattle.walrus_index_maps.proofs.SpreadLemmas.{length_listed}
use Rattle.walrus_index_maps.proofs.local_list.LocalList.len.Goals as goal

pub returns : goal.returns
returns c =
    let now = c.self.inside in
    length_listed now.first now.run now.count now.rest.items c.self.invariant.rising ∙ ap (λ (l : List ℕ). length l) c.self.view_is
