-- What an add leaves, and what it adds.
use Rattle.std.specs.Prelude.{◌≡◌, ℕ, Bool, List, [], ◌∷◌, ◌++◌, Option, Some, None, string_bytes}
use Rattle.std.specs.Option.{option_map}
use Rattle.std.specs.HashSet.{keys}
use Rattle.walrus_arena.specs.Arena.{Arena}
use Rattle.walrus_forms.specs.declared.value.RefType.{RefType}
use Rattle.walrus_instr.specs.declared.const_expr.ConstExpr.{ConstExpr}
use Rattle.walrus_module_items.specs.walrus_local_function.declared.local_function.LocalFunction.{LocalFunction}
use Rattle.walrus_module_items.specs.declared.import.Import.{Import}
use Rattle.walrus_module_items.specs.declared.import.ImportKind.{ImportKind}
use Rattle.walrus_module_items.specs.declared.export.Export.{Export}
use Rattle.walrus_module_items.specs.declared.export.ExportItem.{ExportItem}
use Rattle.walrus_module_items.specs.declared.function.Function.{Function}
use Rattle.walrus_module_items.specs.declared.function.FunctionKind.TheVariants.{Local}
use Rattle.walrus_module_items.specs.declared.table.Table.{Table}
use Rattle.walrus_module_items.specs.declared.memory.Memory.{Memory}

-- the new collection has one more item, of which this holds, under the next id
abbrev pub Adds : {T : Type 0} → (T → Type 0) → Arena T → Arena T → Type 0
Adds {T} holds old new = (item : T) × holds item × (new.slots ≡ old.slots ++ Some item ∷ [])

pub record IsImport (id : ℕ) («module» name : List ℕ) (kind : ImportKind) (i : Import) : Type 0 where
  pub id_is : i.id ≡ id
  pub module_is : string_bytes i.«module» ≡ «module»
  pub name_is : string_bytes i.name ≡ name
  pub kind_is : i.kind ≡ kind

pub record IsExport (id : ℕ) (name : List ℕ) (item : ExportItem) (e : Export) : Type 0 where
  pub id_is : e.id ≡ id
  pub name_is : string_bytes e.name ≡ name
  pub item_is : e.item ≡ item

-- a function with this body has the name that was given to what was built
pub record IsLocal (id : ℕ) (local : LocalFunction) (f : Function) : Type 0 where
  pub id_is : f.id ≡ id
  pub kind_is : f.kind ≡ Local local
  pub name_is : option_map string_bytes f.name ≡ option_map string_bytes local.builder.name

pub record IsTable (id : ℕ) (table64 : Bool) (initial : ℕ) (maximum : Option ℕ) (element : RefType) (init : Option ConstExpr) (import : Option ℕ) (t : Table) : Type 0 where
  pub id_is : t.id ≡ id
  pub table64_is : t.table64 ≡ table64
  pub initial_is : t.initial ≡ initial
  pub maximum_is : t.maximum ≡ maximum
  pub element_is : t.element_ty ≡ element
  pub init_is : t.init ≡ init
  pub import_is : t.import ≡ import
  pub no_segments : keys t.elem_segments ≡ []
  pub no_name : t.name ≡ None

pub record IsMemory (id : ℕ) (shared memory64 : Bool) (initial : ℕ) (maximum page_size_log2 import : Option ℕ) (m : Memory) : Type 0 where
  pub id_is : m.id ≡ id
  pub shared_is : m.shared ≡ shared
  pub memory64_is : m.memory64 ≡ memory64
  pub initial_is : m.initial ≡ initial
  pub maximum_is : m.maximum ≡ maximum
  pub page_size_is : m.page_size_log2 ≡ page_size_log2
  pub import_is : m.import ≡ import
  pub no_segments : keys m.data_segments ≡ []
  pub no_name : m.name ≡ None
