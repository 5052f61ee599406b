-- What is looked at in place of references: less, with the same reach.
use Rattle.std.specs.Prelude.{◌≡◌, ◌⊎◌, ◌==◌, ℕ, ◌<◌, true, List, [], ◌∷◌, ◌++◌, map, length, slice_index_or, slice_set, is_some, Contains, MatchOption, if◌then◌else◌}
use Rattle.std.specs.HashSet.{keys}
use Rattle.wasm_formats.specs.declared.fault.Space.{Space}
use Rattle.wasm_formats.specs.declared.fault.Space.TheVariants as spaces
use Rattle.std.specs.List.{flat_map}
use Rattle.walrus_arena.specs.Arena.{Arena, item_at}
use Rattle.walrus_items.specs.Items.{Group}
use Rattle.walrus_types.specs.Table.{Table as TypeTable, HasMember}
use Rattle.walrus_references.specs.walrus_module_items.declared.table.Table.{Table}
use Rattle.walrus_references.specs.walrus_module_items.declared.element.ElementKind.{ElementKind}
use Rattle.walrus_references.specs.walrus_module_items.declared.element.ElementKind.TheVariants as elements
use Rattle.walrus_references.specs.walrus_module_items.declared.memory.Memory.{Memory}
use Rattle.walrus_references.specs.walrus_module.Parts.{Module}
use Rattle.walrus_roots.specs.declared.item.Item.{Item}
use Rattle.walrus_roots.specs.Items.{item}
use Rattle.walrus_references.specs.References.{RefersIn, IsActiveIn, named_by, type_items, table_items}
use Rattle.walrus_references.specs.walrus_module.Items.{written_type}

-- of a group the first member stands for the others: it names them all, and each other names it alone
abbrev pub group_items : ℕ → List ℕ → List Item
group_items id [] = []
group_items id (first ∷ rest) = if id == first then map (item spaces.Type) (first ∷ rest) else item spaces.Type first ∷ []

abbrev pub LooksInGroup : TypeTable → ℕ → Item → Type 0
LooksInGroup t id y = (group : Group) × HasMember t id group × (group.explicit ≡ true) × Contains (group_items id group.types) y

-- the items of those of these ids that live
abbrev pub live_items : {T : Type 0} → Arena T → Space → List ℕ → List Item
live_items a space ids = flat_map (λ id. if is_some (item_at a id) then item space id ∷ [] else []) ids

-- the item of this number in these lists
abbrev pub IsAt : List (List Item) → ℕ → Item → Type 0
IsAt active t y = Contains (slice_index_or active t []) y

-- a table: what stands in it, the segments that it lists itself, and those that are active in it
abbrev pub table_looks : Module → List (List Item) → ℕ → Table → List Item
table_looks m active id t = (table_items t ++ live_items m.elements spaces.Element (keys t.elem_segments)) ++ slice_index_or active id []

-- a memory: the segments that it lists itself, since active ones are roots
abbrev pub memory_looks : Module → Memory → List Item
memory_looks m x = live_items m.data_segments spaces.Data (keys x.data_segments)

abbrev pub LooksIn : Module → List (List Item) → Space → ℕ → Item → Type 0
LooksIn m active spaces.Type id y = Contains (named_by type_items (written_type m.types id)) y ⊎ LooksInGroup m.types id y
LooksIn m active spaces.Table id y = Contains (named_by (table_looks m active id) (item_at m.tables id)) y
LooksIn m active spaces.Memory id y = Contains (named_by (memory_looks m) (item_at m.memories id)) y
LooksIn m active space id y = RefersIn m space id y

abbrev pub Looks : Module → List (List Item) → Item → Item → Type 0
Looks m active x y = LooksIn m active x.space x.id y

-- the segment is active in the table
abbrev pub IsInTable : Module → ℕ → Item → Type 0
IsInTable m t y = (e : ℕ) × (y ≡ item spaces.Element e) × MatchOption (item_at m.elements e) ⊥ (λ element. IsActiveIn t element.kind)

-- for each table the segments that are active in it
pub record AreActive (m : Module) (active : List (List Item)) : Type 0 where
  pub all : (t : ℕ) (y : Item) → t < length m.tables.slots → IsInTable m t y → IsAt active t y
  pub only : (t : ℕ) (y : Item) → IsAt active t y → IsInTable m t y

-- one more in one of these lists
abbrev pub listed : List (List Item) → ℕ → Item → List (List Item)
listed lists t i = slice_set lists t (slice_index_or lists t [] ++ i ∷ [])

-- an active segment in the list of its table
abbrev pub listed_segment : List (List Item) → ℕ → ElementKind → List (List Item)
listed_segment lists id (elements.Active t _) = listed lists t (item spaces.Element id)
listed_segment lists id _ = lists
