use Rattle.std.proofs.Common.{◌∙◌, List, length, ap}
use Rattle.walrus_type_index.specs.declared.node_list.FlatNode.{FlatNode}
use Rattle.walrus_type_index.proofs.ForestLemmas.{whole, halve-done}
use Rattle.walrus_type_index.proofs.forest.Forest.halve.Goals as goal

pub invariant_of-self : goal.invariant_of-self
invariant_of-self c =
    let i = c.self.inside in
    let sent = c.as_mut_slice.ensures.value in
    let now = whole c.halved-tops.new.nodes i.nodes.items i.nodes.len i.nodes.ok.0 (c.halved-tops.auto.nodes ∙ ap (λ (ns : List FlatNode). length ns) sent) in
    (halve-done c.args.shift i.nodes.items c.as_mut_slice.result.now c.halved-tops.new.nodes _ i.tops.items c.replace-tops.result.items c.halved-tops.result.0.items i.last c.halved-tops.result.1 _
    c.self.view_is c.self.invariant sent now (ap (λ v. v.items) c.replace-tops.ensures.value) c.halved-tops.ensures).holds

pub returns-clause-trees : goal.returns-clause-trees
returns-clause-trees c =
    let i = c.self.inside in
    let sent = c.as_mut_slice.ensures.value in
    let now = whole c.halved-tops.new.nodes i.nodes.items i.nodes.len i.nodes.ok.0 (c.halved-tops.auto.nodes ∙ ap (λ (ns : List FlatNode). length ns) sent) in
    (halve-done c.args.shift i.nodes.items c.as_mut_slice.result.now c.halved-tops.new.nodes _ i.tops.items c.replace-tops.result.items c.halved-tops.result.0.items i.last c.halved-tops.result.1 _
    c.self.view_is c.self.invariant sent now (ap (λ v. v.items) c.replace-tops.ensures.value) c.halved-tops.ensures).trees_are

pub returns-clause-last : goal.returns-clause-last
returns-clause-last c =
    let i = c.self.inside in
    let sent = c.as_mut_slice.ensures.value in
    let now = whole c.halved-tops.new.nodes i.nodes.items i.nodes.len i.nodes.ok.0 (c.halved-tops.auto.nodes ∙ ap (λ (ns : List FlatNode). length ns) sent) in
    (halve-done c.args.shift i.nodes.items c.as_mut_slice.result.now c.halved-tops.new.nodes _ i.tops.items c.replace-tops.result.items c.halved-tops.result.0.items i.last c.halved-tops.result.1 _
    c.self.view_is c.self.invariant sent now (ap (λ v. v.items) c.replace-tops.ensures.value) c.halved-tops.ensures).last_is
