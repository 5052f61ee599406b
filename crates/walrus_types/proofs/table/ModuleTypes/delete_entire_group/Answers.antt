use Rattle.walrus_type_arenas.specs.walrus_type_index.Places.{kinds_in}
use Rattle.walrus_type_arenas.specs.walrus_type_index.Ordered.{IsHeld}
use Rattle.std.proofs.Common.{Option, subst, ℕ, List, map, ◌∙◌, ap, sym, slice_index}
use Rattle.std.specs.Option.{option_map}
use Rattle.std.proofs.lemmas.List.{set-set}
use Rattle.walrus_type_arenas.specs.walrus_type_index.walrus_items.Items.{item_of}
use Rattle.walrus_type_arenas.specs.Table.{clear_all}
use Rattle.walrus_type_arenas.proofs.DeleteLemmas.{live-inside, home-live, deletes-group, deletes-group-grouped}
use Rattle.walrus_types.proofs.table.ModuleTypes.delete_entire_group.Goals as goal

pub index_mut-group-requires : goal.index_mut-group-requires
index_mut-group-requires c = home-live c.self.inside.types.slots c.self.inside.groups.slots c.self.inside.homes.items c.self.invariant.grouped c.args.id c.home_of-home.result
    (sym (c.home_of-home.ensures ∙ ap (λ xs. slice_index xs c.args.id) c.as_slice.ensures.value)) (live-inside c.self.inside.types.slots c.self.inside.groups.slots c.args.self.now c.args.id c.self.view_is c.requires)

pub invariant_of-self : goal.invariant_of-self
invariant_of-self c =
    let cleared = c.clear_each.ensures.types ∙ ap (λ (ids : List ℕ). clear_all ids (map (option_map item_of) c.self.inside.types.slots)) (c.as_slice-2.ensures.value ∙ ap (λ v. v.items) c.replace-members.ensures.value) in
    record {
      held = subst (λ (l : Option ℕ). IsHeld l c.clear_each.new.index (kinds_in c.clear_each.new.types.slots)) (sym c.settle.ensures.lent) c.clear_each.ensures.held;
      grouped = rw (c.delete.ensures.deleted, set-set) (deletes-group-grouped c.self.inside.types.slots c.self.inside.groups.slots c.self.inside.homes.items c.self.invariant.grouped c.clear_each.new.types.slots c.home_of-home.result
          c.index_mut-group.result.now c.index_mut-group.ensures.value cleared);
    }

pub returns : goal.returns
returns c =
    let cleared = c.clear_each.ensures.types ∙ ap (λ (ids : List ℕ). clear_all ids (map (option_map item_of) c.self.inside.types.slots)) (c.as_slice-2.ensures.value ∙ ap (λ v. v.items) c.replace-members.ensures.value) in
    rw (c.delete.ensures.deleted, set-set)
    (deletes-group c.self.inside.types.slots c.self.inside.groups.slots c.self.inside.homes.items c.self.invariant.grouped c.clear_each.new.types.slots c.args.id c.home_of-home.result c.args.self.now c.index_mut-group.result.now c.self.view_is
    (sym (c.home_of-home.ensures ∙ ap (λ xs. slice_index xs c.args.id) c.as_slice.ensures.value))
    c.index_mut-group.ensures.value cleared)
