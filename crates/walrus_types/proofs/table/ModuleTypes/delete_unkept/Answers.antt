use Rattle.std.proofs.Common.{Option, ℕ, List, Contains, map, length, ◌∙◌, ap, sym, subst}
use Rattle.std.specs.Prelude.{◌↔◌}
use Rattle.std.specs.Option.{option_map, option_and_then}
use Rattle.std.proofs.lemmas.List.{length-map}
use Rattle.walrus_type_arenas.specs.walrus_type_index.Places.{kinds_in}
use Rattle.walrus_type_arenas.specs.walrus_type_index.Ordered.{IsHeld}
use Rattle.walrus_type_arenas.specs.walrus_type_index.walrus_items.Items.{Item, item_of, group_of}
use Rattle.walrus_type_arenas.specs.Table.{Table, IsSpared, clear_all, marked, table_of, with_live}
use Rattle.walrus_type_arenas.proofs.MarkLemmas.{groups-left}
use Rattle.walrus_type_arenas.proofs.SparedLemmas.{left-listed}
use Rattle.walrus_type_arenas.proofs.SweepLemmas.{grouped-swept}
use Rattle.walrus_types.proofs.table.ModuleTypes.delete_unkept.Goals as goal

pub invariant_of-self : goal.invariant_of-self
invariant_of-self c =
    let types = map (option_map item_of) c.self.inside.types.slots in
    let groups = map (option_map group_of) c.self.inside.groups.slots in
    record {
      held = subst (λ (l : Option ℕ). IsHeld l c.clear_unkept.new.index (kinds_in c.clear_unkept.new.types.slots)) (sym c.settle.ensures.lent) c.clear_unkept.ensures.held;
      grouped =
          rw (c.sweep.ensures, groups-left c.clear_unkept.new.marks types groups c.self.inside.homes.items c.self.invariant.grouped, c.clear_unkept.ensures.types)
          (grouped-swept (marked c.clear_unkept.new.marks) types groups c.self.inside.homes.items c.self.invariant.grouped);
    }

pub returns-clause-gone : goal.returns-clause-gone
returns-clause-gone c =
    let types = map (option_map item_of) c.self.inside.types.slots in
    let groups = map (option_map group_of) c.self.inside.groups.slots in
    record {
      types = c.clear_unkept.ensures.types ∙ ap (λ (t : Table). clear_all (marked c.clear_unkept.new.marks) t.types) c.self.view_is;
      groups =
          c.sweep.ensures
          ∙ groups-left c.clear_unkept.new.marks types groups c.self.inside.homes.items c.self.invariant.grouped
          ∙ ap (λ (left : List (Option Item)). map (option_and_then (with_live left)) groups) (sym c.clear_unkept.ensures.types)
          ∙ ap (λ (t : Table). map (option_and_then (with_live (map (option_map item_of) c.clear_unkept.new.types.slots))) t.groups) c.self.view_is;
    }

pub returns-clause-left : goal.returns-clause-left
returns-clause-left c =
    subst (λ (t : Table). (id : ℕ) → Contains (marked c.clear_unkept.new.marks) id ↔ (Contains (marked c.args.marks.now) id × (IsSpared t id → ⊥))) c.self.view_is
    (left-listed (table_of c.self.inside.types.slots c.self.inside.groups.slots) c.self.inside.homes.items c.self.invariant.grouped c.args.marks.now c.clear_unkept.new.marks
    (rw (sym c.as_slice.ensures.value) c.clear_unkept.ensures.left))

pub clear_unkept-requires-clause-sized : goal.clear_unkept-requires-clause-sized
clear_unkept-requires-clause-sized c = ap (λ (homes : List ℕ). length homes) c.as_slice.ensures.value ∙ c.self.invariant.grouped.sized ∙ length-map c.self.inside.types.slots (option_map item_of)
