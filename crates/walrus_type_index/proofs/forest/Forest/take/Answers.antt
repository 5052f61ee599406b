use Rattle.std.proofs.Common.{◌∙◌, ℕ, List, length, ap}
use Rattle.walrus_type_index.specs.Places.{kinds_in}
use Rattle.walrus_type_index.specs.declared.node_list.FlatNode.{FlatNode}
use Rattle.walrus_type_index.specs.Directory.{tree_at}
use Rattle.walrus_type_index.proofs.ForestLemmas.{whole, take-done, take-met}
use Rattle.walrus_type_index.proofs.forest.Forest.take.Goals as goal

pub invariant_of-self : goal.invariant_of-self
invariant_of-self c =
    let i = c.self.inside in
    let sent = c.as_mut_slice.ensures.value in
    let now = whole c.take-rest.new.nodes i.nodes.items i.nodes.len i.nodes.ok.0 (c.take-rest.auto.nodes ∙ ap (λ (ns : List FlatNode). length ns) sent) in
    let top = c.top_of-top.ensures ∙ ap (λ (ts : List ℕ). tree_at ts c.args.place i.last) c.as_slice.ensures.value in
    let full = c.len-fuel.ensures ∙ i.nodes.ok.0 in
    (take-done (kinds_in c.args.types.now.slots) i.nodes.items c.as_mut_slice.result.now c.take-rest.new.nodes _ i.tops.items c.set_top.new.tops.items c.args.place i.last c.set_top.new.last c.top_of-top.result
    c.len-fuel.result c.take-rest.result.0 c.args.hashed _ c.self.view_is c.self.invariant sent now c.set_top.ensures.tops c.set_top.ensures.last top full c.take-rest.ensures.rest c.requires).holds

pub returns-clause-trees : goal.returns-clause-trees
returns-clause-trees c =
    let i = c.self.inside in
    let sent = c.as_mut_slice.ensures.value in
    let now = whole c.take-rest.new.nodes i.nodes.items i.nodes.len i.nodes.ok.0 (c.take-rest.auto.nodes ∙ ap (λ (ns : List FlatNode). length ns) sent) in
    let top = c.top_of-top.ensures ∙ ap (λ (ts : List ℕ). tree_at ts c.args.place i.last) c.as_slice.ensures.value in
    let full = c.len-fuel.ensures ∙ i.nodes.ok.0 in
    (take-done (kinds_in c.args.types.now.slots) i.nodes.items c.as_mut_slice.result.now c.take-rest.new.nodes _ i.tops.items c.set_top.new.tops.items c.args.place i.last c.set_top.new.last c.top_of-top.result
    c.len-fuel.result c.take-rest.result.0 c.args.hashed _ c.self.view_is c.self.invariant sent now c.set_top.ensures.tops c.set_top.ensures.last top full c.take-rest.ensures.rest c.requires).trees_are

pub returns-clause-last : goal.returns-clause-last
returns-clause-last c =
    let i = c.self.inside in
    let sent = c.as_mut_slice.ensures.value in
    let now = whole c.take-rest.new.nodes i.nodes.items i.nodes.len i.nodes.ok.0 (c.take-rest.auto.nodes ∙ ap (λ (ns : List FlatNode). length ns) sent) in
    let top = c.top_of-top.ensures ∙ ap (λ (ts : List ℕ). tree_at ts c.args.place i.last) c.as_slice.ensures.value in
    let full = c.len-fuel.ensures ∙ i.nodes.ok.0 in
    (take-done (kinds_in c.args.types.now.slots) i.nodes.items c.as_mut_slice.result.now c.take-rest.new.nodes _ i.tops.items c.set_top.new.tops.items c.args.place i.last c.set_top.new.last c.top_of-top.result
    c.len-fuel.result c.take-rest.result.0 c.args.hashed _ c.self.view_is c.self.invariant sent now c.set_top.ensures.tops c.set_top.ensures.last top full c.take-rest.ensures.rest c.requires).last_is

pub returns-clause-met : goal.returns-clause-met
returns-clause-met c =
    let i = c.self.inside in
    let top = c.top_of-top.ensures ∙ ap (λ (ts : List ℕ). tree_at ts c.args.place i.last) c.as_slice.ensures.value in
    take-met (kinds_in c.args.types.now.slots) i.nodes.items c.as_mut_slice.result.now i.tops.items c.args.place i.last c.top_of-top.result c.len-fuel.result c.args.hashed c.take-rest.result.1 _
    c.self.view_is c.self.invariant c.as_mut_slice.ensures.value top (c.len-fuel.ensures ∙ i.nodes.ok.0) c.take-rest.ensures.met c.requires
