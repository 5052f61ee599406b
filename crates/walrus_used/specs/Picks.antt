-- What is met for each item of a collection.
use Rattle.std.specs.Prelude.{◌≡◌, ℕ, ◌+◌, ◌<◌, ◌⊎◌, ◌↔◌, ◌||◌, Bool, false, List, [], ◌∷◌, Option, Some, None, is_some, Contains, MatchOption, if◌then◌else◌}
use Rattle.wasm_formats.specs.declared.fault.Space.TheVariants as spaces
use Rattle.walrus_arena.specs.Arena.{Arena, item_at}
use Rattle.walrus_references.specs.walrus_module_items.declared.table.Table.{Table}
use Rattle.walrus_references.specs.walrus_module_items.declared.export.Export.{Export}
use Rattle.walrus_references.specs.walrus_module_items.declared.data.Data.{Data}
use Rattle.walrus_references.specs.walrus_module_items.declared.data.DataKind.{DataKind}
use Rattle.walrus_references.specs.walrus_module_items.declared.data.DataKind.TheVariants as datas
use Rattle.walrus_references.specs.walrus_module_items.declared.element.Element.{Element}
use Rattle.walrus_references.specs.walrus_module_items.declared.element.ElementKind.{ElementKind}
use Rattle.walrus_references.specs.walrus_module_items.declared.element.ElementKind.TheVariants as elements
use Rattle.walrus_references.specs.walrus_module.Items.{given_out}
use Rattle.walrus_references.specs.walrus_module.Parts.{Module}
use Rattle.walrus_roots.specs.declared.item.Item.{Item}
use Rattle.walrus_roots.specs.Items.{item}

-- the item is one of a number below n
abbrev pub Below : (ℕ → Item → Type 0) → ℕ → Item → Type 0
Below P n x = (k : ℕ) × (k < n) × P k x

-- the item is picked for the live item of the id
abbrev pub IsPickedAt : {T : Type 0} → (ℕ → T → Item → Type 0) → Arena T → ℕ → Item → Type 0
IsPickedAt picks a id x = MatchOption (item_at a id) ⊥ (λ t. picks id t x)

-- the item is picked for some live item
abbrev pub IsPicked : {T : Type 0} → (ℕ → T → Item → Type 0) → Arena T → Item → Type 0
IsPicked picks a x = (id : ℕ) × IsPickedAt picks a id x

-- an active data segment
abbrev pub active_data : ℕ → DataKind → List Item
active_data id (datas.Active _ _) = item spaces.Data id ∷ []
active_data id datas.Passive = []

abbrev pub is_imported : Option Table → Bool
is_imported (Some table) = is_some table.import
is_imported None = false

-- a declared element segment, or an active one: of an imported table, or any where all are kept
abbrev pub rooted_element : (keep : Bool) → Arena Table → ℕ → ElementKind → List Item
rooted_element keep tables id elements.Passive = []
rooted_element keep tables id elements.Declared = item spaces.Element id ∷ []
rooted_element keep tables id (elements.Active t _) = if keep || is_imported (item_at tables t) then item spaces.Element id ∷ [] else []

-- the start function
abbrev pub start_items : Option ℕ → List Item
start_items (Some f) = item spaces.Function f ∷ []
start_items None = []

-- just these element segments are roots
abbrev pub AreRooted : Module → List Item → Type 0
AreRooted m rooted = (x : Item) → Contains rooted x ↔ IsPicked (λ id (e : Element) y. Contains (rooted_element m.config.keep_segments m.tables id e.kind) y) m.elements x

-- the item is given out, a segment that is copied, one of these segments, pushed, or the start function
abbrev pub RootWith : Module → List Item → List Item → Item → Type 0
RootWith m rooted pushed x =
    (((IsPicked (λ _ (e : Export) y. Contains (given_out e.item ∷ []) y) m.exports x ⊎ IsPicked (λ id (d : Data) y. Contains (active_data id d.kind) y) m.data_segments x) ⊎ Contains rooted x) ⊎ Contains pushed x)
    ⊎ Contains (start_items m.start) x

-- the same of these but the segments that are copied
abbrev pub OtherRootWith : Module → List Item → List Item → Item → Type 0
OtherRootWith m rooted pushed x = ((IsPicked (λ _ (e : Export) y. Contains (given_out e.item ∷ []) y) m.exports x ⊎ Contains rooted x) ⊎ Contains pushed x) ⊎ Contains (start_items m.start) x

-- the item is such a root of the first part, or of one of the next parts the data segment of this part, if it is copied
abbrev pub RootIn : Module → List Item → List Item → ℕ → Item → Type 0
RootIn m rooted pushed part x = ((part ≡ 0) × OtherRootWith m rooted pushed x) ⊎ ((id : ℕ) × (part ≡ id + 1) × IsPickedAt (λ id (d : Data) y. Contains (active_data id d.kind) y) m.data_segments id x)
