use Rattle.std.proofs.Common.{◌∙◌, ℕ, List, length, ap}
use Rattle.walrus_type_index.specs.Places.{kinds_in}
use Rattle.walrus_type_index.specs.declared.node_list.FlatNode.{FlatNode}
use Rattle.walrus_type_index.specs.Directory.{tree_at}
use Rattle.walrus_type_index.proofs.ForestLemmas.{whole, put-done}
use Rattle.walrus_type_index.proofs.forest.Forest.put.Goals as goal

pub invariant_of-self : goal.invariant_of-self
invariant_of-self c =
    let i = c.self.inside in
    let sent = c.as_mut_slice.ensures.value in
    let now = whole c.put-top.new.nodes i.nodes.items i.nodes.len i.nodes.ok.0 (c.put-top.auto.nodes ∙ ap (λ (ns : List FlatNode). length ns) sent) in
    let top = c.top_of-top.ensures ∙ ap (λ (ts : List ℕ). tree_at ts c.args.place i.last) c.as_slice.ensures.value in
    let full = c.len-fuel.ensures ∙ i.nodes.ok.0 in
    (put-done (kinds_in c.args.types.now.slots) i.nodes.items c.as_mut_slice.result.now c.put-top.new.nodes _ i.tops.items c.set_top.new.tops.items c.args.place i.last c.set_top.new.last c.top_of-top.result
    c.len-fuel.result c.put-top.result c.args.hashed _ c.self.view_is c.self.invariant sent now c.set_top.ensures.tops c.set_top.ensures.last top full c.put-top.ensures c.requires.sorted c.requires.room c.requires.out).holds

pub returns-clause-trees : goal.returns-clause-trees
returns-clause-trees c =
    let i = c.self.inside in
    let sent = c.as_mut_slice.ensures.value in
    let now = whole c.put-top.new.nodes i.nodes.items i.nodes.len i.nodes.ok.0 (c.put-top.auto.nodes ∙ ap (λ (ns : List FlatNode). length ns) sent) in
    let top = c.top_of-top.ensures ∙ ap (λ (ts : List ℕ). tree_at ts c.args.place i.last) c.as_slice.ensures.value in
    let full = c.len-fuel.ensures ∙ i.nodes.ok.0 in
    (put-done (kinds_in c.args.types.now.slots) i.nodes.items c.as_mut_slice.result.now c.put-top.new.nodes _ i.tops.items c.set_top.new.tops.items c.args.place i.last c.set_top.new.last c.top_of-top.result
    c.len-fuel.result c.put-top.result c.args.hashed _ c.self.view_is c.self.invariant sent now c.set_top.ensures.tops c.set_top.ensures.last top full c.put-top.ensures c.requires.sorted c.requires.room c.requires.out).trees_are

pub returns-clause-last : goal.returns-clause-last
returns-clause-last c =
    let i = c.self.inside in
    let sent = c.as_mut_slice.ensures.value in
    let now = whole c.put-top.new.nodes i.nodes.items i.nodes.len i.nodes.ok.0 (c.put-top.auto.nodes ∙ ap (λ (ns : List FlatNode). length ns) sent) in
    let top = c.top_of-top.ensures ∙ ap (λ (ts : List ℕ). tree_at ts c.args.place i.last) c.as_slice.ensures.value in
    let full = c.len-fuel.ensures ∙ i.nodes.ok.0 in
    (put-done (kinds_in c.args.types.now.slots) i.nodes.items c.as_mut_slice.result.now c.put-top.new.nodes _ i.tops.items c.set_top.new.tops.items c.args.place i.last c.set_top.new.last c.top_of-top.result
    c.len-fuel.result c.put-top.result c.args.hashed _ c.self.view_is c.self.invariant sent now c.set_top.ensures.tops c.set_top.ensures.last top full c.put-top.ensures c.requires.sorted c.requires.room c.requires.out).last_is
