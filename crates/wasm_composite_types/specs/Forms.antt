-- The forms of types (Core Specification, types: composite types).
use Rattle.std.specs.Prelude.{Bool, true, false, Option, Some, None}
use Rattle.wasm_composite_types.specs.declared.form.FuncType.{FuncType}
use Rattle.wasm_composite_types.specs.declared.form.ArrayType.{ArrayType}
use Rattle.wasm_composite_types.specs.declared.form.StructType.{StructType}
use Rattle.wasm_composite_types.specs.declared.form.ContType.{ContType}
use Rattle.wasm_composite_types.specs.declared.form.CompositeInnerType.{CompositeInnerType}
use Rattle.wasm_composite_types.specs.declared.form.CompositeInnerType.TheVariants.{Func, Array, Struct, Cont}

-- the function, array, structure or continuation type, if it is one
abbrev pub function_of : CompositeInnerType → Option FuncType
function_of (Func ty) = Some ty
function_of (Array _) = None
function_of (Struct _) = None
function_of (Cont _) = None

abbrev pub array_of : CompositeInnerType → Option ArrayType
array_of (Func _) = None
array_of (Array ty) = Some ty
array_of (Struct _) = None
array_of (Cont _) = None

abbrev pub struct_of : CompositeInnerType → Option StructType
struct_of (Func _) = None
struct_of (Array _) = None
struct_of (Struct ty) = Some ty
struct_of (Cont _) = None

abbrev pub continuation_of : CompositeInnerType → Option ContType
continuation_of (Func _) = None
continuation_of (Array _) = None
continuation_of (Struct _) = None
continuation_of (Cont ty) = Some ty

-- whether it is of that form
abbrev pub is_function : CompositeInnerType → Bool
is_function (Func _) = true
is_function (Array _) = false
is_function (Struct _) = false
is_function (Cont _) = false

abbrev pub is_array : CompositeInnerType → Bool
is_array (Func _) = false
is_array (Array _) = true
is_array (Struct _) = false
is_array (Cont _) = false

abbrev pub is_struct : CompositeInnerType → Bool
is_struct (Func _) = false
is_struct (Array _) = false
is_struct (Struct _) = true
is_struct (Cont _) = false

abbrev pub is_continuation : CompositeInnerType → Bool
is_continuation (Func _) = false
is_continuation (Array _) = false
is_continuation (Struct _) = false
is_continuation (Cont _) = true
