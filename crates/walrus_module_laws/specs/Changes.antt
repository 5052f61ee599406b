-- What deletes, and writes through a `&mut` to an item, keep of a linked module.
use Rattle.std.specs.Prelude.{◌≡◌, ℕ, Some, None, Contains, slice_set}
use Rattle.walrus_arena.specs.Arena.{item_at, with_item}
use Rattle.walrus_items.specs.Items.{Group}
use Rattle.walrus_types.specs.Table.{Deletes, DeletesGroup, IsLive, group_at}
use Rattle.walrus_types.specs.TypeLaws.{AreGrouped}
use Rattle.walrus_linked.specs.walrus_module_items.declared.import.Import.{Import}
use Rattle.walrus_linked.specs.walrus_module_items.declared.export.Export.{Export}
use Rattle.walrus_linked.specs.walrus_module_items.declared.function.Function.{Function}
use Rattle.walrus_linked.specs.walrus_module_items.declared.table.Table.{Table}
use Rattle.walrus_linked.specs.walrus_module_items.declared.memory.Memory.{Memory}
use Rattle.walrus_linked.specs.walrus_module_items.declared.global.Global.{Global}
use Rattle.walrus_linked.specs.walrus_module_items.declared.tag.Tag.{Tag}
use Rattle.walrus_linked.specs.walrus_module_items.declared.data.Data.{Data}
use Rattle.walrus_linked.specs.walrus_module_items.declared.element.Element.{Element}
use Rattle.wasm_formats.specs.declared.fault.Space.TheVariants as spaces
use Rattle.walrus_linked.specs.walrus_module.Parts.{Module}
use Rattle.walrus_roots.specs.declared.item.Item.{Item}
use Rattle.walrus_roots.specs.Items.{item}
use Rattle.walrus_linked.specs.walrus_module.Items.{Lives, brought, given_out}
use Rattle.walrus_linked.specs.Names.{names, function_names, table_names, global_names, tag_names, data_kind_names, element_names}
use Rattle.walrus_linked.specs.Linked.{IsLinked, IsWhole, function_import, global_import, tag_import}
use Rattle.walrus_module_laws.specs.Edits.{AreLive}

-- only these items name one of them: no other live item, no import, no export, and the start function is none of them
pub record AreUnnamed (m : Module) (these : Item → Type 0) : Type 0 where
  pub by_items : (x : Item) → these x → (y : Item) → Lives m y → Contains (names m y) x → these y
  pub by_imports : (x : Item) → these x → (i : ℕ) (import : Import) → item_at m.imports i ≡ Some import → brought import.kind ≡ x → ⊥
  pub by_exports : (x : Item) → these x → (e : ℕ) (export : Export) → item_at m.exports e ≡ Some export → given_out export.item ≡ x → ⊥
  pub by_start : (x : Item) → these x → (f : ℕ) → m.start ≡ Some f → item spaces.Function f ≡ x → ⊥

-- nothing else names the item
abbrev pub IsUnnamed : Module → Item → Type 0
IsUnnamed m x = AreUnnamed m (λ y. y ≡ x)

-- the members of a group, as items
abbrev pub IsMember : Group → Item → Type 0
IsMember group x = (id : ℕ) × Contains group.types id × (x ≡ item spaces.Type id)

-- each says of a delete what it ensures; nothing else names what is deleted; of types each is in one group, as in each table, and a deleted one was live
pub record DeletesKeepLinked : Type 0 where
  pub types : (m n : Module) (id : ℕ) → AreGrouped m.types → IsLive m.types id → Deletes id m.types n.types → n ≡ record m { types = n.types }
      → IsUnnamed m (item spaces.Type id) → IsLinked m → IsLinked n
  pub groups : (m n : Module) (id place : ℕ) (group : Group) → AreGrouped m.types → group_at m.types place ≡ Some group → Contains group.types id
      → DeletesGroup id m.types n.types → n ≡ record m { types = n.types } → AreUnnamed m (IsMember group) → IsLinked m → IsLinked n
  pub functions : (m n : Module) (id : ℕ) → n.funcs.slots ≡ slice_set m.funcs.slots id None → n ≡ record m { funcs = n.funcs }
      → IsUnnamed m (item spaces.Function id) → IsLinked m → IsLinked n
  pub tables : (m n : Module) (id : ℕ) → n.tables.slots ≡ slice_set m.tables.slots id None → n ≡ record m { tables = n.tables }
      → IsUnnamed m (item spaces.Table id) → IsLinked m → IsLinked n
  pub memories : (m n : Module) (id : ℕ) → n.memories.slots ≡ slice_set m.memories.slots id None → n ≡ record m { memories = n.memories }
      → IsUnnamed m (item spaces.Memory id) → IsLinked m → IsLinked n
  pub globals : (m n : Module) (id : ℕ) → n.globals.slots ≡ slice_set m.globals.slots id None → n ≡ record m { globals = n.globals }
      → IsUnnamed m (item spaces.Global id) → IsLinked m → IsLinked n
  pub tags : (m n : Module) (id : ℕ) → n.tags.slots ≡ slice_set m.tags.slots id None → n ≡ record m { tags = n.tags }
      → IsUnnamed m (item spaces.Tag id) → IsLinked m → IsLinked n
  pub elements : (m n : Module) (id : ℕ) → n.elements.slots ≡ slice_set m.elements.slots id None → n ≡ record m { elements = n.elements }
      → IsUnnamed m (item spaces.Element id) → IsLinked m → IsLinked n
  pub data_segments : (m n : Module) (id : ℕ) → n.data_segments.slots ≡ slice_set m.data_segments.slots id None → n ≡ record m { data_segments = n.data_segments }
      → IsUnnamed m (item spaces.Data id) → IsLinked m → IsLinked n

-- each says of an item that was lent for writing what it is then: imported as before, or the module's own as before; and what it names lives
pub record WritesKeepLinked : Type 0 where
  pub imports : (m n : Module) (id : ℕ) (old new : Import) → item_at m.imports id ≡ Some old → n.imports ≡ with_item m.imports id new → n ≡ record m { imports = n.imports }
      → new.kind ≡ old.kind → IsLinked m → IsLinked n
  pub exports : (m n : Module) (id : ℕ) (new : Export) → n.exports ≡ with_item m.exports id new → n ≡ record m { exports = n.exports }
      → Lives n (given_out new.item) → IsLinked m → IsLinked n
  pub functions : (m n : Module) (id : ℕ) (old new : Function) → item_at m.funcs id ≡ Some old → n.funcs ≡ with_item m.funcs id new → n ≡ record m { funcs = n.funcs }
      → function_import new.kind ≡ function_import old.kind → IsWhole m.types new.kind → AreLive n (function_names m.locals new) → IsLinked m → IsLinked n
  pub tables : (m n : Module) (id : ℕ) (old new : Table) → item_at m.tables id ≡ Some old → n.tables ≡ with_item m.tables id new → n ≡ record m { tables = n.tables }
      → new.import ≡ old.import → AreLive n (table_names new) → IsLinked m → IsLinked n
  pub memories : (m n : Module) (id : ℕ) (old new : Memory) → item_at m.memories id ≡ Some old → n.memories ≡ with_item m.memories id new → n ≡ record m { memories = n.memories }
      → new.import ≡ old.import → IsLinked m → IsLinked n
  pub globals : (m n : Module) (id : ℕ) (old new : Global) → item_at m.globals id ≡ Some old → n.globals ≡ with_item m.globals id new → n ≡ record m { globals = n.globals }
      → global_import new.kind ≡ global_import old.kind → AreLive n (global_names new) → IsLinked m → IsLinked n
  pub tags : (m n : Module) (id : ℕ) (old new : Tag) → item_at m.tags id ≡ Some old → n.tags ≡ with_item m.tags id new → n ≡ record m { tags = n.tags }
      → tag_import new.kind ≡ tag_import old.kind → AreLive n (tag_names new) → IsLinked m → IsLinked n
  pub elements : (m n : Module) (id : ℕ) (old new : Element) → item_at m.elements id ≡ Some old → n.elements ≡ with_item m.elements id new → n ≡ record m { elements = n.elements }
      → AreLive n (element_names new) → IsLinked m → IsLinked n
  pub data_segments : (m n : Module) (id : ℕ) (old new : Data) → item_at m.data_segments id ≡ Some old → n.data_segments ≡ with_item m.data_segments id new
      → n ≡ record m { data_segments = n.data_segments } → AreLive n (data_kind_names new.kind) → IsLinked m → IsLinked n
