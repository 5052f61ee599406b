-- Types that are added one by one, each in a group of its own.
use Rattle.std.proofs.Common.{◌≡◌, ◌∙◌, ℕ, false, List, [], ◌∷◌, ◌++◌, length, map, Option, Some, None, refl, sym, ap}
use Rattle.std.specs.Option.{option_map}
use Rattle.std.proofs.lemmas.List.{length-map, map-append}
use Rattle.walrus_type_arenas.specs.walrus_type_index.walrus_items.walrus_forms.Kinds.{Kind}
use Rattle.walrus_type_arenas.specs.walrus_type_index.walrus_items.declared.subtype.Type.{«Type» as TypeItem}
use Rattle.walrus_type_arenas.specs.walrus_type_index.walrus_items.declared.subtype.RecGroup.{RecGroup}
use Rattle.walrus_type_arenas.specs.walrus_type_index.walrus_items.Items.{Item, Group, item_of, group_of, kind_of}
use Rattle.walrus_type_arenas.specs.Table.{Table, IsGrouped, Merges, equal_type, table_of}
use Rattle.walrus_type_arenas.proofs.TableLemmas.{grouped-added}

-- one more type in a table, in a group of its own
pub type-pushed : (types types_then : List (Option TypeItem)) (groups groups_then : List (Option RecGroup)) (homes homes_then : List ℕ) (ty : TypeItem) (group : RecGroup) (id : ℕ)
    → IsGrouped (map (option_map item_of) types) (map (option_map group_of) groups) homes
    → length types ≡ id → group_of group ≡ record { explicit = false; types = id ∷ [] }
    → types_then ≡ types ++ Some ty ∷ [] → groups_then ≡ groups ++ Some group ∷ [] → homes_then ≡ homes ++ length groups ∷ []
    → IsGrouped (map (option_map item_of) types_then) (map (option_map group_of) groups_then) homes_then
type-pushed types types_then groups groups_then homes homes_then ty group id g is_id alone types_is groups_is homes_is =
    let more_types = map-append (option_map item_of) types (Some ty ∷ []) in
    let more_groups : map (option_map group_of) (groups ++ Some group ∷ []) ≡ map (option_map group_of) groups ++ Some (record { explicit = false; types = id ∷ [] }) ∷ [] =
    map-append (option_map group_of) groups (Some group ∷ []) ∙ ap (λ (g : Group). map (option_map group_of) groups ++ Some g ∷ []) alone in
    rw (types_is, groups_is, homes_is, more_types, more_groups)
    (grouped-added (map (option_map item_of) types) (map (option_map group_of) groups) homes id (length groups) (item_of ty) false g
    (length-map types (option_map item_of) ∙ is_id) (length-map groups (option_map group_of)))

-- a type without a name, as a table shows it
new-item : (ty : TypeItem) (id : ℕ) → ty.id ≡ id → ty.name ≡ None → item_of ty ≡ record { id = id; kind = kind_of ty; name = None }
new-item ty id own unnamed = rw (own, unnamed) refl

-- a type that stands for the new one is found
pub found-merges : (kind : Kind) (found : ℕ) (t : Table) → equal_type kind t ≡ Some found → Merges kind found t t
found-merges kind found t is = rw is (refl, refl)

-- a type that equals none is added
pub new-merges : (types types_then : List (Option TypeItem)) (groups groups_then : List (Option RecGroup)) (t : Table) (ty : TypeItem) (group : RecGroup) (id : ℕ)
    → table_of types groups ≡ t → equal_type (kind_of ty) t ≡ None → length types ≡ id → ty.id ≡ id → ty.name ≡ None
    → group_of group ≡ record { explicit = false; types = id ∷ [] }
    → types_then ≡ types ++ Some ty ∷ [] → groups_then ≡ groups ++ Some group ∷ []
    → Merges (kind_of ty) id t (table_of types_then groups_then)
new-merges types types_then groups groups_then t ty group id view none is_id own unnamed alone types_is groups_is = rw none (record {
  given = sym (ap (λ (u : Table). length u.types) (sym view) ∙ length-map types (option_map item_of) ∙ is_id);
  types = ap (map (option_map item_of)) types_is ∙ map-append (option_map item_of) types (Some ty ∷ [])
      ∙ ap (λ (i : Item). map (option_map item_of) types ++ Some i ∷ []) (new-item ty id own unnamed)
      ∙ ap (λ (u : Table). u.types ++ Some (record { id = id; kind = kind_of ty; name = None }) ∷ []) view;
  groups = ap (map (option_map group_of)) groups_is ∙ map-append (option_map group_of) groups (Some group ∷ [])
      ∙ ap (λ (g : Group). map (option_map group_of) groups ++ Some g ∷ []) alone
      ∙ ap (λ (u : Table). u.groups ++ Some (record { explicit = false; types = id ∷ [] }) ∷ []) view;
})

-- what stands for a kind turns on the types alone
pub equal-seen : (kind : Kind) (types : List (Option TypeItem)) (groups : List (Option RecGroup)) (t : Table) → table_of types groups ≡ t
    → equal_type kind (table_of types []) ≡ equal_type kind t
equal-seen kind types groups t view = ap (λ (u : Table). equal_type kind (record { types = u.types; groups = [] })) view
