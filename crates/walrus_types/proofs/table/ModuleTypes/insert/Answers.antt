use Rattle.std.proofs.Common.{◌≡◌, ◌∙◌, ℕ, List, [], ◌∷◌, ◌++◌, Some, Option, length, ap, sym, subst, false}
use Rattle.walrus_type_arenas.specs.walrus_type_index.walrus_items.Items.{Group}
use Rattle.walrus_type_arenas.specs.walrus_type_index.walrus_items.declared.subtype.RecGroup.{RecGroup}
use Rattle.walrus_type_arenas.specs.walrus_type_index.walrus_items.declared.subtype.Type.{«Type» as TypeItem}
use Rattle.walrus_type_arenas.specs.walrus_type_index.Places.{kinds_in}
use Rattle.walrus_type_arenas.specs.walrus_type_index.Ordered.{IsHeld}
use Rattle.walrus_types.proofs.PairLemmas.{type-pushed}
use Rattle.walrus_types.proofs.table.ModuleTypes.insert.Goals as goal

pub invariant_of-self-2 : goal.invariant_of-self-2
invariant_of-self-2 c =
    let slots = c.self.inside.types.slots in
    let groups = c.self.inside.groups.slots in
    let homes = c.self.inside.homes.items in
    let group : RecGroup = record { types = c.in_ok-members.members; explicit = false } in
    let members : c.in_ok-members.members.items ≡ c.next_id-id.result ∷ [] = c.in_ok-members.ensures in
    record {
      held = subst (λ (l : Option ℕ). IsHeld l c.push_single_hashed.new.index (kinds_in c.push_single_hashed.new.types.slots)) (sym c.settle.ensures.lent) c.push_single_hashed.ensures.held;
      grouped = type-pushed slots c.push_single_hashed.new.types.slots groups c.push_single_hashed.new.groups.slots homes c.push_single_hashed.new.homes.items c.new-ty.result group c.next_id-id.result
          c.self.invariant.grouped (sym c.next_id-id.ensures) (ap (λ (xs : List ℕ). let g : Group = record { explicit = false; types = xs } in g) members)
          (c.push_single_hashed.ensures.types ∙ ap (λ (xs : List (Option TypeItem)). xs ++ Some c.new-ty.result ∷ []) c.reserve_singles.ensures.types)
          (c.push_single_hashed.ensures.groups ∙ ap (λ (xs : List (Option RecGroup)). xs ++ Some group ∷ []) c.reserve_singles.ensures.groups)
          (c.push_single_hashed.ensures.homes ∙ ap (λ (xs : List ℕ). xs ++ length c.reserve_singles.new.groups.slots ∷ []) c.reserve_singles.ensures.homes
          ∙ ap (λ (gs : List (Option RecGroup)). homes ++ length gs ∷ []) c.reserve_singles.ensures.groups);
    }
