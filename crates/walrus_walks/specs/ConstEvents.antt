-- What constant expressions tell a visitor: their constants, and the items that they name.
use Rattle.std.specs.Prelude.{◌≡◌, List, [], ◌∷◌, map}
use Rattle.std.specs.Option.{option_to_list}
use Rattle.walrus_instr.specs.walrus_forms.declared.value.RefType.{RefType}
use Rattle.walrus_instr.specs.walrus_forms.declared.value.ValType.{ValType}
use Rattle.walrus_instr.specs.walrus_forms.Values.{ref_name, value_name}
use Rattle.walrus_instr.specs.declared.instr.Value.TheVariants.{I32, I64, F32, F64, V128}
use Rattle.walrus_instr.specs.declared.const_expr.ConstOp.{ConstOp}
use Rattle.walrus_instr.specs.declared.const_expr.ConstOp.TheVariants.{I32Const, I64Const, F32Const, F64Const, V128Const, GlobalGet, RefNull as RefNullOp, RefFunc as RefFuncOp, StructNew, StructNewDefault, ArrayNew, ArrayNewDefault, ArrayNewFixed}
use Rattle.walrus_instr.specs.declared.const_expr.ConstExpr.{ConstExpr}
use Rattle.walrus_instr.specs.declared.const_expr.ConstExpr.TheVariants.{«Value», Global, RefNull, RefFunc, Extended}
use Rattle.walrus_instr.specs.Constants.{ops_of}
use Rattle.walrus_instr.specs.Renamed.{Renaming, renamed_op}
use Rattle.walrus_walks.specs.Events.{Event, NamesGlobal, NamesFunction, NamesType, Holds, ref_names, val_names, events_of}

-- the constant of an operator, or the items that it names
abbrev pub op_names : ConstOp → List Event
op_names (I32Const n) = Holds (I32 n) ∷ []
op_names (I64Const n) = Holds (I64 n) ∷ []
op_names (F32Const bits) = Holds (F32 bits) ∷ []
op_names (F64Const bits) = Holds (F64 bits) ∷ []
op_names (V128Const bits) = Holds (V128 bits) ∷ []
op_names (GlobalGet global) = NamesGlobal global ∷ []
op_names (RefNullOp ty) = ref_names ty
op_names (RefFuncOp func) = NamesFunction func ∷ []
op_names (StructNew ty) = NamesType ty ∷ []
op_names (StructNewDefault ty) = NamesType ty ∷ []
op_names (ArrayNew ty) = NamesType ty ∷ []
op_names (ArrayNewDefault ty) = NamesType ty ∷ []
op_names (ArrayNewFixed ty _) = NamesType ty ∷ []
op_names _ = []

-- the constants of an expression and the items that it names, in the order of its operators
abbrev pub expr_names : ConstExpr → List Event
expr_names («Value» value) = Holds value ∷ []
expr_names (Global global) = NamesGlobal global ∷ []
expr_names (RefNull ty) = ref_names ty
expr_names (RefFunc func) = NamesFunction func ∷ []
expr_names (Extended ops) = events_of op_names ops.items

-- what an expression tells is what its operators tell
abbrev pub ExprsTellOps : Type 0
ExprsTellOps = (expr : ConstExpr) → expr_names expr ≡ events_of op_names (ops_of expr)

-- an event with what it names sent through the map of its space
abbrev pub renamed_event : Renaming → Event → Event
renamed_event r (NamesType id) = NamesType (r.types id)
renamed_event r (NamesFunction id) = NamesFunction (r.functions id)
renamed_event r (NamesGlobal id) = NamesGlobal (r.globals id)
renamed_event r event = event

-- a renamed operator tells what the operator tells, renamed
abbrev pub TellsRenamed : Type 0
TellsRenamed = (r : Renaming) (op : ConstOp) → op_names (renamed_op r op) ≡ map (renamed_event r) (op_names op)

-- renamings that agree on what an operator tells make the same of it: it names nothing else
abbrev pub TellsAllNames : Type 0
TellsAllNames = (r s : Renaming) (op : ConstOp) → map (renamed_event r) (op_names op) ≡ map (renamed_event s) (op_names op)
    → renamed_op r op ≡ renamed_op s op

-- what types tell is the type that they name
abbrev pub RefsTellNames : Type 0
RefsTellNames = (ty : RefType) → ref_names ty ≡ map (λ id. NamesType id) (option_to_list (ref_name ty))

abbrev pub ValuesTellNames : Type 0
ValuesTellNames = (ty : ValType) → val_names ty ≡ map (λ id. NamesType id) (option_to_list (value_name ty))
