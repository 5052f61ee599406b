-- A constant expression with the indices that it names sent through maps, a map for each space.
use Rattle.std.specs.Prelude.{◌≡◌, ℕ, List, map, All, IfSome}
use Rattle.std.specs.Vec.{with_items}
use Rattle.walrus_types.specs.walrus_forms.Values.{heap_name}
use Rattle.walrus_types.specs.walrus_forms.Renaming.{renamed_ref}
use Rattle.walrus_instr.specs.declared.const_expr.ConstOp.{ConstOp}
use Rattle.walrus_instr.specs.declared.const_expr.ConstOp.TheVariants.{GlobalGet, RefNull as RefNullOp, RefFunc as RefFuncOp, StructNew, StructNewDefault, ArrayNew, ArrayNewDefault, ArrayNewFixed}
use Rattle.walrus_instr.specs.declared.const_expr.ConstExpr.{ConstExpr}
use Rattle.walrus_instr.specs.declared.const_expr.ConstExpr.TheVariants.{«Value», Global, RefNull, RefFunc, Extended}
use Rattle.walrus_instr.specs.Constants.{ops_of}

-- a map for each space of which operators name indices
pub record Renaming : Type 0 where
  pub types : ℕ → ℕ
  pub functions : ℕ → ℕ
  pub globals : ℕ → ℕ

-- the operator with each index sent through the map of its space
abbrev pub renamed_op : Renaming → ConstOp → ConstOp
renamed_op r (GlobalGet global) = GlobalGet (r.globals global)
renamed_op r (RefNullOp ty) = RefNullOp (renamed_ref r.types ty)
renamed_op r (RefFuncOp func) = RefFuncOp (r.functions func)
renamed_op r (StructNew ty) = StructNew (r.types ty)
renamed_op r (StructNewDefault ty) = StructNewDefault (r.types ty)
renamed_op r (ArrayNew ty) = ArrayNew (r.types ty)
renamed_op r (ArrayNewDefault ty) = ArrayNewDefault (r.types ty)
renamed_op r (ArrayNewFixed ty size) = ArrayNewFixed (r.types ty) size
renamed_op r op = op

-- the expression with each index sent through the map of its space, in the form that it has
abbrev pub renamed_expr : Renaming → ConstExpr → ConstExpr
renamed_expr r («Value» value) = «Value» value
renamed_expr r (Global global) = Global (r.globals global)
renamed_expr r (RefNull ty) = RefNull (renamed_ref r.types ty)
renamed_expr r (RefFunc func) = RefFunc (r.functions func)
renamed_expr r (Extended ops) = Extended (with_items ops (map (renamed_op r) ops.items))

-- the maps of `back` undo those of `there` on the indices that the operator names
abbrev pub Undoes : Renaming → Renaming → ConstOp → Type 0
Undoes back there (GlobalGet global) = back.globals (there.globals global) ≡ global
Undoes back there (RefNullOp ty) = IfSome (heap_name ty.heap_type) (λ name. back.types (there.types name) ≡ name)
Undoes back there (RefFuncOp func) = back.functions (there.functions func) ≡ func
Undoes back there (StructNew ty) = back.types (there.types ty) ≡ ty
Undoes back there (StructNewDefault ty) = back.types (there.types ty) ≡ ty
Undoes back there (ArrayNew ty) = back.types (there.types ty) ≡ ty
Undoes back there (ArrayNewDefault ty) = back.types (there.types ty) ≡ ty
Undoes back there (ArrayNewFixed ty _) = back.types (there.types ty) ≡ ty
Undoes back there _ = Unit {0}

-- the operators of a renamed expression are its operators, renamed
abbrev pub OpsAreRenamed : Type 0
OpsAreRenamed = (r : Renaming) (expr : ConstExpr) → ops_of (renamed_expr r expr) ≡ map (renamed_op r) (ops_of expr)

-- an expression of renamed operators, renamed back, has those operators
abbrev pub OpsComeBack : Type 0
OpsComeBack = (there back : Renaming) (ops : List ConstOp) (expr : ConstExpr) → All (Undoes back there) ops
    → ops_of expr ≡ map (renamed_op there) ops → ops_of (renamed_expr back expr) ≡ ops
