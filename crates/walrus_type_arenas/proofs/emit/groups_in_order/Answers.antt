use Rattle.std.proofs.Common.{◌∙◌, ℕ, List, Bor, length, map, sym, ap, subst, slice_index_or}
use Rattle.std.proofs.Math.ListN.{length-map}
use Rattle.std.proofs.lemmas.Result.{IfOk-weaker}
use Rattle.walrus_type_index.specs.walrus_items.walrus_forms.Order.{kind_cmp}
use Rattle.walrus_type_order.specs.Order.{IsEmissionOrder}
use Rattle.walrus_type_index.specs.walrus_items.declared.subtype.RecGroup.{RecGroup}
use Rattle.walrus_type_index.specs.walrus_items.Items.{Group, group_of}
use Rattle.walrus_type_arenas.specs.Table.{table_of}
use Rattle.walrus_type_arenas.specs.Emission.{key_of, no_group}
use Rattle.walrus_type_arenas.proofs.EmitLemmas.{order-below, in-order}
use Rattle.walrus_type_arenas.proofs.emit.groups_in_order.Goals as goal

abbrev shown : List (Bor RecGroup) → List Group
shown gs = map (λ (g : Bor RecGroup). group_of g.now) gs

pub groups_at-requires : goal.groups_at-requires
groups_at-requires c =
    let t = table_of c.args.types.now.slots c.args.groups.now.slots in
    let len = length-map (shown c.as_slice.result.now) (key_of t) ∙ length-map c.as_slice.result.now (λ (g : Bor RecGroup). group_of g.now) ∙ ap (λ (gs : List (Bor RecGroup)). length gs) (c.as_slice.ensures.value ∙ sym c.as_slice-2.ensures.value) in
    order-below kind_cmp (map (key_of t) (shown c.as_slice.result.now)) c.as_slice-3.result.now _ len (subst (λ (ns : List ℕ). IsEmissionOrder kind_cmp (map (key_of t) (shown c.as_slice.result.now)) ns) (sym c.as_slice-3.ensures.value) c.in_ok-order.ensures)

pub returns : goal.returns
returns c =
    let t = table_of c.args.types.now.slots c.args.groups.now.slots in
    let given : IsEmissionOrder kind_cmp (map (key_of t) (shown c.in_ok-groups.groups.items)) c.in_ok-order.order.items = subst (λ (gs : List (Bor RecGroup)). IsEmissionOrder kind_cmp (map (key_of t) (shown gs)) c.in_ok-order.order.items) c.as_slice.ensures.value c.in_ok-order.ensures in
    IfOk-weaker c.groups_at.result _ _ (λ found places. in-order t (shown c.in_ok-groups.groups.items) (shown found.items) c.in_ok-order.order.items c.in_ok-groups.ensures given
    (places ∙ ap (λ (gs : List (Bor RecGroup)). map (λ i. slice_index_or (shown gs) i no_group) c.as_slice-3.result.now) c.as_slice-2.ensures.value ∙ ap (λ (ns : List ℕ). map (λ i. slice_index_or (shown c.in_ok-groups.groups.items) i no_group) ns) c.as_slice-3.ensures.value)) c.groups_at.ensures
