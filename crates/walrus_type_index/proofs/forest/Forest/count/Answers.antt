use Rattle.std.proofs.Common.{◌∙◌, length, sym, ap}
use Rattle.walrus_type_index.specs.Forest.{Forest}
use Rattle.walrus_type_index.proofs.ForestLemmas.{as-many}
use Rattle.walrus_type_index.proofs.forest.Forest.count.Goals as goal

pub returns : goal.returns
returns c =
    let i = c.self.inside in
    c.len.ensures ∙ i.tops.ok.0 ∙ sym (as-many i.nodes.items i.tops.items) ∙ ap (λ (f : Forest). length f.trees) c.self.view_is
