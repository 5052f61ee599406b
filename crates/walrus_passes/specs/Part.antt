-- What is left of a module once what isn't kept is deleted.
use Rattle.std.specs.Prelude.{◌≡◌, ℕ, true, List, filter, length, Some, IsSome, is_some, Contains}
use Rattle.wasm_formats.specs.declared.fault.Space.TheVariants as spaces
use Rattle.walrus_arena.specs.Arena.{Arena, item_at}
use Rattle.walrus_items.specs.Items.{Item as TypeItem, Group}
use Rattle.walrus_types.specs.Table.{Table as TypeTable, type_at, group_at, HasMember}
use Rattle.walrus_refusals.specs.walrus_used.walrus_module_items.declared.import.Import.{Import}
use Rattle.walrus_refusals.specs.walrus_used.walrus_module.Parts.{Module}
use Rattle.walrus_roots.specs.declared.item.Item.{Item}
use Rattle.walrus_roots.specs.Items.{item}
use Rattle.walrus_refusals.specs.walrus_used.walrus_module.Items.{written_type}
use Rattle.walrus_refusals.specs.walrus_used.walrus_references.Kept.{Kept}
use Rattle.walrus_refusals.specs.walrus_used.walrus_module.Items.{brought}

-- the live items of the one collection are those of the other, under their ids, without those among these that don't stay
pub record RestAmong {T : Type 0} (among : ℕ → Type 0) (stays : ℕ → T → Type 0) (old new : Arena T) : Type 0 where
  pub sized : length new.slots ≡ length old.slots
  pub each : (id : ℕ) (x : T) → item_at old id ≡ Some x → stays id x → item_at new id ≡ Some x
  pub only : (id : ℕ) (x : T) → item_at new id ≡ Some x → item_at old id ≡ Some x
  pub stay : (id : ℕ) (x : T) → among id → item_at new id ≡ Some x → stays id x

-- without all that don't stay
abbrev pub Rest : {T : Type 0} → (ℕ → T → Type 0) → Arena T → Arena T → Type 0
Rest stays old new = RestAmong (λ _. Unit {0}) stays old new

-- the group without its members that don't live
abbrev pub left_of : TypeTable → Group → Group
left_of t group = record { explicit = group.explicit; types = filter (λ id. is_some (type_at t id)) group.types }

-- types that stay are as they were, with their explicit groups; of those among these no others are left but entry types;
-- entry types that are in no explicit group are as they were; and the groups are what is left of those of which a type lives, in their places
pub record TypesRestAmong (among stays : ℕ → Type 0) (old new : TypeTable) : Type 0 where
  pub sized : length new.types ≡ length old.types
  pub places : length new.groups ≡ length old.groups
  pub each : (id : ℕ) → stays id → type_at new id ≡ type_at old id
  pub only : (id : ℕ) (ty : TypeItem) → type_at new id ≡ Some ty → type_at old id ≡ Some ty
  pub stay : (id : ℕ) → among id → IsSome (written_type new id) → stays id
  pub entries : (id : ℕ) (ty : TypeItem) → type_at old id ≡ Some ty → ty.kind.entry ≡ true → ((group : Group) → HasMember old id group → group.explicit ≡ true → ⊥) → type_at new id ≡ Some ty
  pub groups : (place : ℕ) (group : Group) → group_at old place ≡ Some group → group.explicit ≡ true → (id : ℕ) → Contains group.types id → stays id → group_at new place ≡ Some group
  pub only_groups : (place : ℕ) (group : Group) → group_at new place ≡ Some group → group.explicit ≡ true → group_at old place ≡ Some group
  pub rest : (place : ℕ) (group : Group) → group_at old place ≡ Some group → (id : ℕ) → Contains group.types id → IsSome (type_at new id) → group_at new place ≡ Some (left_of new group)
  pub left : (place : ℕ) (group : Group) → group_at new place ≡ Some group → (before : Group) × (group_at old place ≡ Some before) × (group ≡ left_of new before)

abbrev pub TypesRest : (ℕ → Type 0) → TypeTable → TypeTable → Type 0
TypesRest stays old new = TypesRestAmong (λ _. Unit {0}) stays old new

-- the module n is m without the items that don't stay, and without their imports
pub record IsPart (stays : Item → Type 0) (m n : Module) : Type 0 where
  pub types : TypesRest (λ id. stays (item spaces.Type id)) m.types n.types
  pub funcs : Rest (λ id _. stays (item spaces.Function id)) m.funcs n.funcs
  pub tables : Rest (λ id _. stays (item spaces.Table id)) m.tables n.tables
  pub memories : Rest (λ id _. stays (item spaces.Memory id)) m.memories n.memories
  pub tags : Rest (λ id _. stays (item spaces.Tag id)) m.tags n.tags
  pub globals : Rest (λ id _. stays (item spaces.Global id)) m.globals n.globals
  pub elements : Rest (λ id _. stays (item spaces.Element id)) m.elements n.elements
  pub data_segments : Rest (λ id _. stays (item spaces.Data id)) m.data_segments n.data_segments
  pub imports : Rest (λ _ (import : Import). stays (brought import.kind)) m.imports n.imports
  pub others : n ≡ record m { types = n.types; funcs = n.funcs; tables = n.tables; memories = n.memories; tags = n.tags; globals = n.globals; elements = n.elements; data_segments = n.data_segments; imports = n.imports }

-- what is kept, where custom sections push these
abbrev pub IsKeptPart : Module → List Item → Module → Type 0
IsKeptPart m pushed n = IsPart (Kept m pushed) m n
