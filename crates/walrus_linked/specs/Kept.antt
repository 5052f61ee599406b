-- What adding an item with the import that brings it keeps.
use Rattle.std.specs.Prelude.{◌≡◌, ℕ, Bool, List, [], ◌∷◌, ◌++◌, Option, Some, None, Contains}
use Rattle.walrus_arena.specs.Arena.{next_id}
use Rattle.walrus_forms.specs.declared.value.ValType.{ValType}
use Rattle.walrus_forms.specs.declared.value.RefType.{RefType}
use Rattle.walrus_marks.specs.walrus_walks.Events.{val_names, ref_names}
use Rattle.walrus_module.specs.walrus_module_items.declared.import.ImportKind.TheVariants as kinds
use Rattle.walrus_module.specs.walrus_module_items.declared.function.FunctionKind.TheVariants as functions
use Rattle.walrus_module.specs.walrus_module_items.declared.global.GlobalKind.TheVariants as globals
use Rattle.walrus_module.specs.walrus_module_items.declared.tag.TagKind.TheVariants as tags
use Rattle.walrus_module.specs.walrus_collections.Added.{Adds, IsImport, IsTable, IsMemory}
use Rattle.wasm_formats.specs.declared.fault.Space.TheVariants as spaces
use Rattle.walrus_module.specs.Parts.{Module}
use Rattle.walrus_roots.specs.declared.item.Item.{Item}
use Rattle.walrus_roots.specs.Items.{item}
use Rattle.walrus_marks.specs.Named.{items_of}
use Rattle.walrus_module.specs.Items.{Lives}
use Rattle.walrus_linked.specs.Linked.{IsLinked}

-- each says of a call what it ensures where it answers ids; the types that the item names live
pub record ImportsKeepLinked : Type 0 where
  pub functions : (m n : Module) (f i ty : ℕ) («module» name : List ℕ) → f ≡ next_id m.funcs → i ≡ next_id m.imports
      → n.funcs.slots ≡ m.funcs.slots ++ Some (record { id = f; kind = functions.Import (record { import = i; ty = ty }); name = None }) ∷ []
      → Adds (IsImport i «module» name (kinds.Function f)) m.imports n.imports
      → n ≡ record m { imports = n.imports; funcs = n.funcs } → Lives m (item spaces.Type ty) → IsLinked m → IsLinked n
  pub tables : (m n : Module) (t i : ℕ) («module» name : List ℕ) (table64 : Bool) (initial : ℕ) (maximum : Option ℕ) (element : RefType)
      → t ≡ next_id m.tables → i ≡ next_id m.imports → Adds (IsTable t table64 initial maximum element None (Some i)) m.tables n.tables
      → Adds (IsImport i «module» name (kinds.Table t)) m.imports n.imports
      → n ≡ record m { imports = n.imports; tables = n.tables } → ((y : Item) → Contains (items_of (ref_names element)) y → Lives m y) → IsLinked m → IsLinked n
  pub memories : (m n : Module) (x i : ℕ) («module» name : List ℕ) (shared memory64 : Bool) (initial : ℕ) (maximum page_size_log2 : Option ℕ)
      → x ≡ next_id m.memories → i ≡ next_id m.imports → Adds (IsMemory x shared memory64 initial maximum page_size_log2 (Some i)) m.memories n.memories
      → Adds (IsImport i «module» name (kinds.Memory x)) m.imports n.imports
      → n ≡ record m { imports = n.imports; memories = n.memories } → IsLinked m → IsLinked n
  pub globals : (m n : Module) (g i : ℕ) («module» name : List ℕ) (ty : ValType) (mutable shared : Bool) → g ≡ next_id m.globals → i ≡ next_id m.imports
      → n.globals.slots ≡ m.globals.slots ++ Some (record { id = g; ty = ty; mutable = mutable; shared = shared; kind = globals.Import i; name = None }) ∷ []
      → Adds (IsImport i «module» name (kinds.Global g)) m.imports n.imports
      → n ≡ record m { imports = n.imports; globals = n.globals } → ((y : Item) → Contains (items_of (val_names ty)) y → Lives m y) → IsLinked m → IsLinked n
  pub tags : (m n : Module) (t i ty : ℕ) («module» name : List ℕ) → t ≡ next_id m.tags → i ≡ next_id m.imports
      → n.tags.slots ≡ m.tags.slots ++ Some (record { id = t; ty = ty; kind = tags.Import i; name = None }) ∷ []
      → Adds (IsImport i «module» name (kinds.Tag t)) m.imports n.imports
      → n ≡ record m { imports = n.imports; tags = n.tags } → Lives m (item spaces.Type ty) → IsLinked m → IsLinked n
