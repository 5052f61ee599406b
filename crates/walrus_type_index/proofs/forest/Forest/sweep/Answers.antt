use Rattle.std.proofs.Common.{◌≡◌, ◌∙◌, ℕ, List, not, length, ap, sym}
use Rattle.walrus_type_index.specs.Ordered.{is_marked}
use Rattle.walrus_type_index.specs.declared.node_list.FlatNode.{FlatNode}
use Rattle.walrus_type_index.proofs.ForestLemmas.{whole, sweep-done}
use Rattle.walrus_type_index.proofs.forest.Forest.sweep.Goals as goal

pub invariant_of-self : goal.invariant_of-self
invariant_of-self c =
    let i = c.self.inside in
    let sent = c.as_mut_slice.ensures.value in
    let tops_sent = c.as_mut_slice-2.ensures.value in
    let mid = whole c.sweep_all.new.nodes i.nodes.items i.nodes.len i.nodes.ok.0 (c.sweep_all.auto.nodes ∙ ap (λ (ns : List FlatNode). length ns) sent) in
    let tops = whole c.sweep_all.new.tops i.tops.items i.tops.len i.tops.ok.0 (c.sweep_all.auto.tops ∙ ap (λ (ns : List ℕ). length ns) tops_sent) in
    let again = c.as_mut_slice-3.ensures.value in
    let same : length c.as_mut_slice-3.result.now ≡ length i.nodes.items =
    ap (λ (ns : List FlatNode). length ns) (again ∙ mid) ∙ c.sweep_all.auto.nodes ∙ ap (λ (ns : List FlatNode). length ns) sent in
    let now = whole c.unmarked-self-inside.new.nodes _ i.nodes.len (i.nodes.ok.0 ∙ sym same ∙ ap (λ (ns : List FlatNode). length ns) again)
    (c.unmarked-self-inside.auto.nodes ∙ ap (λ (ns : List FlatNode). length ns) again) in
    (sweep-done i.nodes.items c.as_mut_slice.result.now c.sweep_all.new.nodes _ c.as_mut_slice-3.result.now c.unmarked-self-inside.new.nodes _ (λ x. not (is_marked c.args.marks.now x.id)) i.tops.items
    c.as_mut_slice-2.result.now c.sweep_all.new.tops _ i.last c.len-fuel.result c.unmarked-self-inside.result _ c.self.view_is c.self.invariant sent tops_sent mid again now tops (c.len-fuel.ensures ∙ i.nodes.ok.0 ∙ sym same)
    c.sweep_all.ensures c.unmarked-self-inside.ensures).holds

pub returns-clause-trees : goal.returns-clause-trees
returns-clause-trees c =
    let i = c.self.inside in
    let sent = c.as_mut_slice.ensures.value in
    let tops_sent = c.as_mut_slice-2.ensures.value in
    let mid = whole c.sweep_all.new.nodes i.nodes.items i.nodes.len i.nodes.ok.0 (c.sweep_all.auto.nodes ∙ ap (λ (ns : List FlatNode). length ns) sent) in
    let tops = whole c.sweep_all.new.tops i.tops.items i.tops.len i.tops.ok.0 (c.sweep_all.auto.tops ∙ ap (λ (ns : List ℕ). length ns) tops_sent) in
    let again = c.as_mut_slice-3.ensures.value in
    let same : length c.as_mut_slice-3.result.now ≡ length i.nodes.items =
    ap (λ (ns : List FlatNode). length ns) (again ∙ mid) ∙ c.sweep_all.auto.nodes ∙ ap (λ (ns : List FlatNode). length ns) sent in
    let now = whole c.unmarked-self-inside.new.nodes _ i.nodes.len (i.nodes.ok.0 ∙ sym same ∙ ap (λ (ns : List FlatNode). length ns) again)
    (c.unmarked-self-inside.auto.nodes ∙ ap (λ (ns : List FlatNode). length ns) again) in
    (sweep-done i.nodes.items c.as_mut_slice.result.now c.sweep_all.new.nodes _ c.as_mut_slice-3.result.now c.unmarked-self-inside.new.nodes _ (λ x. not (is_marked c.args.marks.now x.id)) i.tops.items
    c.as_mut_slice-2.result.now c.sweep_all.new.tops _ i.last c.len-fuel.result c.unmarked-self-inside.result _ c.self.view_is c.self.invariant sent tops_sent mid again now tops (c.len-fuel.ensures ∙ i.nodes.ok.0 ∙ sym same)
    c.sweep_all.ensures c.unmarked-self-inside.ensures).trees_are

pub returns-clause-last : goal.returns-clause-last
returns-clause-last c =
    let i = c.self.inside in
    let sent = c.as_mut_slice.ensures.value in
    let tops_sent = c.as_mut_slice-2.ensures.value in
    let mid = whole c.sweep_all.new.nodes i.nodes.items i.nodes.len i.nodes.ok.0 (c.sweep_all.auto.nodes ∙ ap (λ (ns : List FlatNode). length ns) sent) in
    let tops = whole c.sweep_all.new.tops i.tops.items i.tops.len i.tops.ok.0 (c.sweep_all.auto.tops ∙ ap (λ (ns : List ℕ). length ns) tops_sent) in
    let again = c.as_mut_slice-3.ensures.value in
    let same : length c.as_mut_slice-3.result.now ≡ length i.nodes.items =
    ap (λ (ns : List FlatNode). length ns) (again ∙ mid) ∙ c.sweep_all.auto.nodes ∙ ap (λ (ns : List FlatNode). length ns) sent in
    let now = whole c.unmarked-self-inside.new.nodes _ i.nodes.len (i.nodes.ok.0 ∙ sym same ∙ ap (λ (ns : List FlatNode). length ns) again)
    (c.unmarked-self-inside.auto.nodes ∙ ap (λ (ns : List FlatNode). length ns) again) in
    (sweep-done i.nodes.items c.as_mut_slice.result.now c.sweep_all.new.nodes _ c.as_mut_slice-3.result.now c.unmarked-self-inside.new.nodes _ (λ x. not (is_marked c.args.marks.now x.id)) i.tops.items
    c.as_mut_slice-2.result.now c.sweep_all.new.tops _ i.last c.len-fuel.result c.unmarked-self-inside.result _ c.self.view_is c.self.invariant sent tops_sent mid again now tops (c.len-fuel.ensures ∙ i.nodes.ok.0 ∙ sym same)
    c.sweep_all.ensures c.unmarked-self-inside.ensures).last_is
