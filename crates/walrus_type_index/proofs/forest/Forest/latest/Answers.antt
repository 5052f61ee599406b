use Rattle.std.proofs.Common.{◌∙◌, ℕ, List, length, ap}
use Rattle.walrus_type_index.specs.Places.{kinds_in}
use Rattle.walrus_type_index.specs.Targets.{target_kind}
use Rattle.walrus_type_index.specs.Directory.{tree_at}
use Rattle.walrus_type_index.proofs.ForestLemmas.{latest-met}
use Rattle.walrus_type_index.proofs.forest.Forest.latest.Goals as goal

pub returns : goal.returns
returns c =
    let i = c.self.inside in
    let top = c.top_of-top.ensures ∙ ap (λ (ts : List ℕ). tree_at ts c.args.place i.last) c.as_slice.ensures.value in
    latest-met (kinds_in c.args.types.now.slots) i.nodes.items c.as_slice-2.result.now i.tops.items c.args.place i.last c.top_of-top.result _ (target_kind c.args.target) c.args.own c.latest.result _
    c.self.view_is c.self.invariant c.as_slice-2.ensures.value top (ap (λ ns. length ns) c.as_slice-2.ensures.value) c.latest.ensures c.requires.index
