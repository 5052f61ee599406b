-- Subtypes that need no garbage collection.
use Rattle.std.specs.Prelude.{Option, None, ◌&&◌, if◌then◌else◌}
use Rattle.std.specs.Option.{is_none}
use Rattle.wasm_composite_types.specs.declared.form.FuncType.{FuncType}
use Rattle.wasm_types.specs.declared.subtype.SubType.{SubType}
use Rattle.wasm_composite_types.specs.Forms.{function_of}

-- the function type, if it is one that is final and has no supertype
abbrev pub plain_function_of : SubType → Option FuncType
plain_function_of ty = if ty.is_final && is_none ty.supertype_idx then function_of ty.composite_type.inner else None
