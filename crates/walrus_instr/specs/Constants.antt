-- The operators of a constant expression (Core Specification, constant expressions).
use Rattle.std.specs.Prelude.{List, [], ◌∷◌, Option, Some, None}
use Rattle.walrus_instr.specs.declared.instr.Value.{Value as Constant}
use Rattle.walrus_instr.specs.declared.instr.Value.TheVariants.{I32, I64, F32, F64, V128}
use Rattle.walrus_instr.specs.declared.const_expr.ConstOp.{ConstOp}
use Rattle.walrus_instr.specs.declared.const_expr.ConstOp.TheVariants.{I32Const, I64Const, F32Const, F64Const, V128Const, GlobalGet, RefNull as RefNullOp, RefFunc as RefFuncOp}
use Rattle.walrus_instr.specs.declared.const_expr.ConstExpr.{ConstExpr}
use Rattle.walrus_instr.specs.declared.const_expr.ConstExpr.TheVariants.{«Value», Global, RefNull, RefFunc, Extended}

-- the operator that pushes the constant
abbrev pub const_of : Constant → ConstOp
const_of (I32 n) = I32Const n
const_of (I64 n) = I64Const n
const_of (F32 bits) = F32Const bits
const_of (F64 bits) = F64Const bits
const_of (V128 bits) = V128Const bits

-- the operators of the expression, without the `end`
abbrev pub ops_of : ConstExpr → List ConstOp
ops_of («Value» value) = const_of value ∷ []
ops_of (Global global) = GlobalGet global ∷ []
ops_of (RefNull ty) = RefNullOp ty ∷ []
ops_of (RefFunc func) = RefFuncOp func ∷ []
ops_of (Extended ops) = ops.items

-- the short form of an expression of this operator alone, where it has one
abbrev pub short_form : ConstOp → Option ConstExpr
short_form (I32Const n) = Some («Value» (I32 n))
short_form (I64Const n) = Some («Value» (I64 n))
short_form (F32Const bits) = Some («Value» (F32 bits))
short_form (F64Const bits) = Some («Value» (F64 bits))
short_form (V128Const bits) = Some («Value» (V128 bits))
short_form (GlobalGet global) = Some (Global global)
short_form (RefNullOp ty) = Some (RefNull ty)
short_form (RefFuncOp func) = Some (RefFunc func)
short_form _ = None

-- the short form of an expression of these operators
abbrev pub short_of : List ConstOp → Option ConstExpr
short_of (op ∷ []) = short_form op
short_of _ = None
