use Rattle.std.proofs.Common.{◌≡◌, ◌∙◌, ℕ, ◌+◌, false, List, [], ◌∷◌, ◌++◌, Option, Some, length, length-append, arith, refl, ap, sym, subst}
use Rattle.std.specs.Option.{option_map}
use Rattle.std.proofs.lemmas.List.{length-map}
use Rattle.walrus_type_arenas.specs.walrus_type_index.walrus_items.walrus_forms.Kinds.{Kind}
use Rattle.walrus_type_arenas.specs.walrus_type_index.walrus_items.Items.{Group, group_of, item_of, kind_of}
use Rattle.walrus_type_arenas.specs.walrus_type_index.walrus_items.declared.subtype.RecGroup.{RecGroup}
use Rattle.walrus_type_arenas.specs.walrus_type_index.walrus_items.declared.subtype.Type.{«Type» as TypeItem}
use Rattle.walrus_type_arenas.specs.walrus_type_index.Places.{kinds_in}
use Rattle.walrus_type_arenas.specs.walrus_type_index.Ordered.{IsHeld}
use Rattle.walrus_type_arenas.specs.Table.{Merges, next_id, table_of}
use Rattle.walrus_types.proofs.PairLemmas.{type-pushed, new-merges, found-merges}
use Rattle.walrus_types.proofs.table.ModuleTypes.add_then_entry.Goals as goal

pub look_up-requires-clause-next : goal.look_up-requires-clause-next
look_up-requires-clause-next c =
    let slots = c.self.inside.types.slots in
    let types_is : c.push_single.new.types.slots ≡ slots ++ Some c.args.ty ∷ [] = c.push_single.ensures.types ∙ ap (λ (xs : List (Option TypeItem)). xs ++ Some c.args.ty ∷ []) c.reserve_singles.ensures.types in
    let next : c.from_index-entry_id.result ≡ c.next_id-id.result + 1 = c.from_index-entry_id.ensures ∙ c.in-Some.ensures.1 ∙ ap (λ (i : ℕ). i + 1) c.index.ensures in
    omega (arith, next, c.next_id-id.ensures, ap (λ (xs : List (Option TypeItem)). length xs) types_is, length-append slots (Some c.args.ty ∷ []))

pub invariant_of-self-in-Some-look_up : goal.invariant_of-self-in-Some-look_up
invariant_of-self-in-Some-look_up c =
    let slots = c.self.inside.types.slots in
    let groups = c.self.inside.groups.slots in
    let homes = c.self.inside.homes.items in
    let id = c.next_id-id.result in
    let group : RecGroup = record { types = c.in_ok-members.members; explicit = false } in
    let members : c.in_ok-members.members.items ≡ id ∷ [] = c.in_ok-members.ensures in
    let alone : group_of group ≡ record { explicit = false; types = id ∷ [] } = ap (λ (xs : List ℕ). let g : Group = record { explicit = false; types = xs } in g) members in
    let types_is : c.push_single.new.types.slots ≡ slots ++ Some c.args.ty ∷ [] = c.push_single.ensures.types ∙ ap (λ (xs : List (Option TypeItem)). xs ++ Some c.args.ty ∷ []) c.reserve_singles.ensures.types in
    let groups_is : c.push_single.new.groups.slots ≡ groups ++ Some group ∷ [] = c.push_single.ensures.groups ∙ ap (λ (xs : List (Option RecGroup)). xs ++ Some group ∷ []) c.reserve_singles.ensures.groups in
    let homes_is : c.push_single.new.homes.items ≡ homes ++ length groups ∷ [] =
    c.push_single.ensures.homes ∙ ap (λ (xs : List ℕ). xs ++ length c.reserve_singles.new.groups.slots ∷ []) c.reserve_singles.ensures.homes ∙ ap (λ (gs : List (Option RecGroup)). homes ++ length gs ∷ []) c.reserve_singles.ensures.groups in
    let grouped = type-pushed slots c.push_single.new.types.slots groups c.push_single.new.groups.slots homes c.push_single.new.homes.items c.args.ty group id c.self.invariant.grouped (sym c.next_id-id.ensures) alone types_is groups_is homes_is in
    record {
      held = subst (λ (l : Option ℕ). IsHeld l c.push_single.new.index (kinds_in c.push_single.new.types.slots)) (sym c.settle.ensures.lent) c.push_single.ensures.held;
      grouped = grouped;
    }

pub returns-in-Some-look_up-clause-inserted : goal.returns-in-Some-look_up-clause-inserted
returns-in-Some-look_up-clause-inserted c =
    let slots = c.self.inside.types.slots in
    let groups = c.self.inside.groups.slots in
    let homes = c.self.inside.homes.items in
    let id = c.next_id-id.result in
    let group : RecGroup = record { types = c.in_ok-members.members; explicit = false } in
    let members : c.in_ok-members.members.items ≡ id ∷ [] = c.in_ok-members.ensures in
    let alone : group_of group ≡ record { explicit = false; types = id ∷ [] } = ap (λ (xs : List ℕ). let g : Group = record { explicit = false; types = xs } in g) members in
    let types_is : c.push_single.new.types.slots ≡ slots ++ Some c.args.ty ∷ [] = c.push_single.ensures.types ∙ ap (λ (xs : List (Option TypeItem)). xs ++ Some c.args.ty ∷ []) c.reserve_singles.ensures.types in
    let groups_is : c.push_single.new.groups.slots ≡ groups ++ Some group ∷ [] = c.push_single.ensures.groups ∙ ap (λ (xs : List (Option RecGroup)). xs ++ Some group ∷ []) c.reserve_singles.ensures.groups in
    let first = new-merges slots c.push_single.new.types.slots groups c.push_single.new.groups.slots c.args.self.now c.args.ty group id c.self.view_is c.requires.new (sym c.next_id-id.ensures)
    (c.requires.id ∙ ap next_id (sym c.self.view_is) ∙ length-map slots (option_map item_of) ∙ sym c.next_id-id.ensures) c.requires.unnamed alone types_is groups_is in
    let between = table_of c.push_single.new.types.slots c.push_single.new.groups.slots in
    record {
      between = between;
      first_merges = first;
      second_merges = subst (λ (k : Kind). Merges k c.in-Some-look_up.found between between) (ap kind_of c.new-entry.ensures)
          (found-merges (kind_of c.new-entry.result) c.in-Some-look_up.found between (sym c.look_up.ensures ∙ c.in-Some-look_up.is));
    }

pub invariant_of-self-2 : goal.invariant_of-self-2
invariant_of-self-2 c =
    let slots = c.self.inside.types.slots in
    let groups = c.self.inside.groups.slots in
    let homes = c.self.inside.homes.items in
    let id = c.next_id-id.result in
    let group : RecGroup = record { types = c.in_ok-members.members; explicit = false } in
    let members : c.in_ok-members.members.items ≡ id ∷ [] = c.in_ok-members.ensures in
    let alone : group_of group ≡ record { explicit = false; types = id ∷ [] } = ap (λ (xs : List ℕ). let g : Group = record { explicit = false; types = xs } in g) members in
    let types_is : c.push_single.new.types.slots ≡ slots ++ Some c.args.ty ∷ [] = c.push_single.ensures.types ∙ ap (λ (xs : List (Option TypeItem)). xs ++ Some c.args.ty ∷ []) c.reserve_singles.ensures.types in
    let groups_is : c.push_single.new.groups.slots ≡ groups ++ Some group ∷ [] = c.push_single.ensures.groups ∙ ap (λ (xs : List (Option RecGroup)). xs ++ Some group ∷ []) c.reserve_singles.ensures.groups in
    let homes_is : c.push_single.new.homes.items ≡ homes ++ length groups ∷ [] =
    c.push_single.ensures.homes ∙ ap (λ (xs : List ℕ). xs ++ length c.reserve_singles.new.groups.slots ∷ []) c.reserve_singles.ensures.homes ∙ ap (λ (gs : List (Option RecGroup)). homes ++ length gs ∷ []) c.reserve_singles.ensures.groups in
    let grouped = type-pushed slots c.push_single.new.types.slots groups c.push_single.new.groups.slots homes c.push_single.new.homes.items c.args.ty group id c.self.invariant.grouped (sym c.next_id-id.ensures) alone types_is groups_is homes_is in
    let entry_id = c.from_index-entry_id.result in
    let entry_group : RecGroup = record { types = c.in_ok-entry_members.entry_members; explicit = false } in
    let entry_members : c.in_ok-entry_members.entry_members.items ≡ entry_id ∷ [] = c.in_ok-entry_members.ensures in
    let entry_alone : group_of entry_group ≡ record { explicit = false; types = entry_id ∷ [] } = ap (λ (xs : List ℕ). let g : Group = record { explicit = false; types = xs } in g) entry_members in
    let next : entry_id ≡ id + 1 = c.from_index-entry_id.ensures ∙ c.in-Some.ensures.1 ∙ ap (λ (i : ℕ). i + 1) c.index.ensures in
    record {
      held = subst (λ (l : Option ℕ). IsHeld l c.push_single-2.new.index (kinds_in c.push_single-2.new.types.slots)) (sym c.settle.ensures.lent) c.push_single-2.ensures.held;
      grouped = type-pushed c.push_single.new.types.slots c.push_single-2.new.types.slots c.push_single.new.groups.slots c.push_single-2.new.groups.slots c.push_single.new.homes.items c.push_single-2.new.homes.items
          c.new-entry.result entry_group entry_id grouped
          (omega (arith, next, c.next_id-id.ensures, ap (λ (xs : List (Option TypeItem)). length xs) types_is, length-append slots (Some c.args.ty ∷ [])))
          entry_alone c.push_single-2.ensures.types c.push_single-2.ensures.groups c.push_single-2.ensures.homes;
    }

pub returns-clause-inserted : goal.returns-clause-inserted
returns-clause-inserted c =
    let slots = c.self.inside.types.slots in
    let groups = c.self.inside.groups.slots in
    let homes = c.self.inside.homes.items in
    let id = c.next_id-id.result in
    let group : RecGroup = record { types = c.in_ok-members.members; explicit = false } in
    let members : c.in_ok-members.members.items ≡ id ∷ [] = c.in_ok-members.ensures in
    let alone : group_of group ≡ record { explicit = false; types = id ∷ [] } = ap (λ (xs : List ℕ). let g : Group = record { explicit = false; types = xs } in g) members in
    let types_is : c.push_single.new.types.slots ≡ slots ++ Some c.args.ty ∷ [] = c.push_single.ensures.types ∙ ap (λ (xs : List (Option TypeItem)). xs ++ Some c.args.ty ∷ []) c.reserve_singles.ensures.types in
    let groups_is : c.push_single.new.groups.slots ≡ groups ++ Some group ∷ [] = c.push_single.ensures.groups ∙ ap (λ (xs : List (Option RecGroup)). xs ++ Some group ∷ []) c.reserve_singles.ensures.groups in
    let first = new-merges slots c.push_single.new.types.slots groups c.push_single.new.groups.slots c.args.self.now c.args.ty group id c.self.view_is c.requires.new (sym c.next_id-id.ensures)
    (c.requires.id ∙ ap next_id (sym c.self.view_is) ∙ length-map slots (option_map item_of) ∙ sym c.next_id-id.ensures) c.requires.unnamed alone types_is groups_is in
    let entry_id = c.from_index-entry_id.result in
    let entry_group : RecGroup = record { types = c.in_ok-entry_members.entry_members; explicit = false } in
    let entry_members : c.in_ok-entry_members.entry_members.items ≡ entry_id ∷ [] = c.in_ok-entry_members.ensures in
    let entry_alone : group_of entry_group ≡ record { explicit = false; types = entry_id ∷ [] } = ap (λ (xs : List ℕ). let g : Group = record { explicit = false; types = xs } in g) entry_members in
    let next : entry_id ≡ id + 1 = c.from_index-entry_id.ensures ∙ c.in-Some.ensures.1 ∙ ap (λ (i : ℕ). i + 1) c.index.ensures in
    let between = table_of c.push_single.new.types.slots c.push_single.new.groups.slots in
    record {
      between = between;
      first_merges = first;
      second_merges = subst (λ (k : Kind). Merges k entry_id between (table_of c.push_single-2.new.types.slots c.push_single-2.new.groups.slots)) (ap kind_of c.new-entry.ensures)
          (new-merges c.push_single.new.types.slots c.push_single-2.new.types.slots c.push_single.new.groups.slots c.push_single-2.new.groups.slots between c.new-entry.result entry_group entry_id refl
          (sym c.look_up.ensures ∙ c.in_default-look_up.is)
          (omega (arith, next, c.next_id-id.ensures, ap (λ (xs : List (Option TypeItem)). length xs) types_is, length-append slots (Some c.args.ty ∷ [])))
          (ap (λ (t : TypeItem). t.id) c.new-entry.ensures) (ap (λ (t : TypeItem). t.name) c.new-entry.ensures) entry_alone c.push_single-2.ensures.types c.push_single-2.ensures.groups);
    }
