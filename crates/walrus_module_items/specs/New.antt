-- What a table and a memory are when they are made.
use Rattle.std.specs.Prelude.{◌≡◌, ℕ, Bool, [], Option, None}
use Rattle.std.specs.HashSet.{keys}
use Rattle.walrus_forms.specs.declared.value.RefType.{RefType}
use Rattle.walrus_module_items.specs.declared.table.Table.{Table}
use Rattle.walrus_module_items.specs.declared.memory.Memory.{Memory}

-- a table of this id and type, without initialiser, import, segments and name
pub record IsNewTable (id : ℕ) (table64 : Bool) (initial : ℕ) (maximum : Option ℕ) (element : RefType) (t : Table) : Type 0 where
  pub id_is : t.id ≡ id
  pub table64_is : t.table64 ≡ table64
  pub initial_is : t.initial ≡ initial
  pub maximum_is : t.maximum ≡ maximum
  pub element_is : t.element_ty ≡ element
  pub no_init : t.init ≡ None
  pub no_import : t.import ≡ None
  pub no_segments : keys t.elem_segments ≡ []
  pub no_name : t.name ≡ None

-- a memory of this id and type, without import, segments and name
pub record IsNewMemory (id : ℕ) (shared memory64 : Bool) (initial : ℕ) (maximum page_size_log2 : Option ℕ) (m : Memory) : Type 0 where
  pub id_is : m.id ≡ id
  pub shared_is : m.shared ≡ shared
  pub memory64_is : m.memory64 ≡ memory64
  pub initial_is : m.initial ≡ initial
  pub maximum_is : m.maximum ≡ maximum
  pub page_size_is : m.page_size_log2 ≡ page_size_log2
  pub no_import : m.import ≡ None
  pub no_segments : keys m.data_segments ≡ []
  pub no_name : m.name ≡ None
