-- What a contract sees of composite types: their lists, and not the memory that holds them.
use Rattle.std.specs.Prelude.{ℕ, Bool, true, false, List, [], ◌++◌, Option, Some, None}
use Rattle.std.specs.List.{filter_map}
use Rattle.std.specs.Option.{option_to_list}
use Rattle.walrus_forms.specs.declared.value.ValType.{ValType}
use Rattle.walrus_forms.specs.declared.value.FieldType.{FieldType}
use Rattle.walrus_forms.specs.declared.composite.FunctionType.{FunctionType}
use Rattle.walrus_forms.specs.declared.composite.StructType.{StructType}
use Rattle.walrus_forms.specs.declared.composite.ArrayType.{ArrayType}
use Rattle.walrus_forms.specs.declared.composite.CompositeType.{CompositeType}
use Rattle.walrus_forms.specs.declared.composite.CompositeType.TheVariants.{Function, Struct, Array}
use Rattle.walrus_forms.specs.Values.{value_name, field_name}

-- the form of a type (Core Specification, composite types)
pub data Form : Type 0 where
  FunctionForm : (params results : List ValType) → Form
  StructForm : (fields : List FieldType) → Form
  ArrayForm : (field : FieldType) → Form

abbrev pub form_of : CompositeType → Form
form_of (Function ty) = FunctionForm ty.params.items ty.results.items
form_of (Struct ty) = StructForm ty.fields.items
form_of (Array ty) = ArrayForm ty.field

-- the function, structure or array type, if it is one
abbrev pub function_of : CompositeType → Option FunctionType
function_of (Function ty) = Some ty
function_of _ = None

abbrev pub struct_of : CompositeType → Option StructType
struct_of (Struct ty) = Some ty
struct_of _ = None

abbrev pub array_of : CompositeType → Option ArrayType
array_of (Array ty) = Some ty
array_of _ = None

abbrev pub is_function : Form → Bool
is_function (FunctionForm _ _) = true
is_function _ = false

abbrev pub is_struct : Form → Bool
is_struct (StructForm _) = true
is_struct _ = false

abbrev pub is_array : Form → Bool
is_array (ArrayForm _) = true
is_array _ = false

-- the parameters and results of a function form
abbrev pub params_of : Form → List ValType
params_of (FunctionForm params _) = params
params_of _ = []

abbrev pub results_of : Form → List ValType
results_of (FunctionForm _ results) = results
results_of _ = []

-- the types that a form names, in its order
abbrev pub form_names : Form → List ℕ
form_names (FunctionForm params results) = filter_map value_name params ++ filter_map value_name results
form_names (StructForm fields) = filter_map field_name fields
form_names (ArrayForm field) = option_to_list (field_name field)
