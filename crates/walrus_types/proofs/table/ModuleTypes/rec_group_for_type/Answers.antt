use Rattle.std.proofs.Common.{◌≡◌, ◌∙◌, ap, None, slice_index, slice_index_or}
use Rattle.std.proofs.lemmas.Grind.{get_or_default_zero}
use Rattle.walrus_type_arenas.specs.Table.{type_at, HasMember}
use Rattle.walrus_type_arenas.proofs.TableLemmas.{home-lists, match-group}
use Rattle.walrus_types.proofs.table.ModuleTypes.rec_group_for_type.Goals as goal

pub returns : goal.returns
returns c =
    let h = home-lists c.self.inside.types.slots c.self.inside.groups.slots c.self.inside.homes.items c.args.self.now c.args.id
    c.self.invariant.grouped c.self.view_is (c.contains.ensures.0 c.if-not-contains.false) in
    match-group c.get.result (slice_index_or c.self.inside.groups.slots (slice_index c.self.inside.homes.items c.args.id) None) h.0
    (type_at c.args.self.now c.args.id ≡ None) (HasMember c.args.self.now c.args.id)
    (c.get.ensures ∙ ap (λ i. slice_index_or c.self.inside.groups.slots i None)
    (c.index-2.ensures ∙ ap (λ i. slice_index_or c.self.inside.homes.items i c.index-2.result.now) c.index.ensures
    ∙ get_or_default_zero c.self.inside.homes.items c.args.id c.index-2.result.now h.3))
    h.1 h.2
