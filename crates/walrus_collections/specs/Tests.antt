-- The tests by which items are looked up.
use Rattle.std.specs.Prelude.{ℕ, Bool, true, false, ◌==◌, ◌&&◌, List, Option, Some, None, string_bytes}
use Rattle.std.specs.Option.{option_map_or}
use Rattle.std.specs.Str.{bytes_eq}
use Rattle.walrus_forms.specs.declared.value.RefType.{RefType}
use Rattle.walrus_forms.specs.declared.value.HeapType.{HeapType}
use Rattle.walrus_forms.specs.declared.value.HeapType.TheVariants.{Abstract}
use Rattle.walrus_forms.specs.declared.value.AbstractHeapType.{AbstractHeapType}
use Rattle.walrus_forms.specs.declared.value.AbstractHeapType.TheVariants.{Func}
use Rattle.walrus_module_items.specs.declared.import.Import.{Import}
use Rattle.walrus_module_items.specs.declared.import.ImportKind.{ImportKind}
use Rattle.walrus_module_items.specs.declared.import.ImportKind.TheVariants as kinds
use Rattle.walrus_module_items.specs.declared.export.Export.{Export}
use Rattle.walrus_module_items.specs.declared.export.ExportItem.{ExportItem}
use Rattle.walrus_module_items.specs.declared.export.ExportItem.TheVariants as items
use Rattle.walrus_module_items.specs.declared.function.Function.{Function}
use Rattle.walrus_module_items.specs.declared.table.Table.{Table}

-- the function that an import brings, if it is one
abbrev pub imported_function : ImportKind → Option ℕ
imported_function (kinds.Function id) = Some id
imported_function _ = None

-- the function that an export gives out, if it is one
abbrev pub exported_function : ExportItem → Option ℕ
exported_function (items.Function id) = Some id
exported_function _ = None

-- the two bring the same
abbrev pub same_kind : ImportKind → ImportKind → Bool
same_kind (kinds.Function a) (kinds.Function b) = a == b
same_kind (kinds.Table a) (kinds.Table b) = a == b
same_kind (kinds.Memory a) (kinds.Memory b) = a == b
same_kind (kinds.Global a) (kinds.Global b) = a == b
same_kind (kinds.Tag a) (kinds.Tag b) = a == b
same_kind _ _ = false

-- the two give out the same
abbrev pub same_item : ExportItem → ExportItem → Bool
same_item (items.Function a) (items.Function b) = a == b
same_item (items.Table a) (items.Table b) = a == b
same_item (items.Memory a) (items.Memory b) = a == b
same_item (items.Global a) (items.Global b) = a == b
same_item (items.Tag a) (items.Tag b) = a == b
same_item _ _ = false

abbrev pub is_some_function : Option ℕ → Bool
is_some_function (Some _) = true
is_some_function None = false

-- the import has these names
abbrev pub import_named : List ℕ → List ℕ → Import → Bool
import_named «module» name i = bytes_eq (string_bytes i.«module») «module» && bytes_eq (string_bytes i.name) name

-- the import has these names and is of a function
abbrev pub function_import_named : List ℕ → List ℕ → Import → Bool
function_import_named «module» name i = import_named «module» name i && is_some_function (imported_function i.kind)

-- the import brings this
abbrev pub imports : ImportKind → Import → Bool
imports kind i = same_kind i.kind kind

-- the export has this name
abbrev pub export_named : List ℕ → Export → Bool
export_named name e = bytes_eq (string_bytes e.name) name

-- the export has this name and is of a function
abbrev pub function_export_named : List ℕ → Export → Bool
function_export_named name e = export_named name e && is_some_function (exported_function e.item)

-- the export gives out this
abbrev pub exports : ExportItem → Export → Bool
exports item e = same_item e.item item

-- the function has this name
abbrev pub function_named : List ℕ → Function → Bool
function_named name f = option_map_or (λ text. bytes_eq (string_bytes text) name) f.name false

-- a nullable reference to functions
abbrev pub is_funcref : RefType → Bool
is_funcref ty = ty.nullable && of_heap ty.heap_type
  where
    of_abstract : AbstractHeapType → Bool
    of_abstract Func = true
    of_abstract _ = false

    of_heap : HeapType → Bool
    of_heap (Abstract ty) = of_abstract ty
    of_heap _ = false

-- the table's elements are nullable references to functions
abbrev pub is_function_table : Table → Bool
is_function_table t = is_funcref t.element_ty
