-- What constant expressions and types tell a visitor.
use Rattle.std.proofs.Common.{◌≡◌, ℕ, Bool, [], ◌∷◌, ◌++◌, map, refl, ap}
use Rattle.std.specs.Option.{option_to_list}
use Rattle.walrus_instr.specs.walrus_forms.declared.value.HeapType.{HeapType}
use Rattle.walrus_instr.specs.walrus_forms.declared.value.HeapType.TheVariants.{Abstract, Shared, Concrete, Exact}
use Rattle.walrus_instr.specs.walrus_forms.declared.value.RefType.{RefType}
use Rattle.walrus_instr.specs.walrus_forms.declared.value.ValType.TheVariants as Val
use Rattle.walrus_instr.specs.walrus_forms.Values.{ref_name}
use Rattle.walrus_instr.specs.walrus_forms.Renaming.{renamed_ref}
use Rattle.walrus_instr.specs.declared.instr.Value.{Value as Constant}
use Rattle.walrus_instr.specs.declared.instr.Value.TheVariants.{I32, I64, F32, F64, V128}
use Rattle.walrus_instr.specs.declared.const_expr.ConstOp.TheVariants.{GlobalGet, RefNull as RefNullOp, RefFunc as RefFuncOp, StructNew, StructNewDefault, ArrayNew, ArrayNewDefault, ArrayNewFixed}
use Rattle.walrus_instr.specs.declared.const_expr.ConstExpr.TheVariants.{«Value», Global, RefNull, RefFunc, Extended}
use Rattle.walrus_instr.specs.Constants.{const_of}
use Rattle.walrus_instr.specs.Renamed.{Renaming}
use Rattle.walrus_walks.specs.Events.{NamesType, Holds, ref_names}
use Rattle.walrus_walks.specs.ConstEvents.{op_names, renamed_event, ExprsTellOps, TellsRenamed, TellsAllNames, RefsTellNames, ValuesTellNames}

heap_alone : (nullable : Bool) (heap : HeapType) → let ty : RefType = record { nullable = nullable; heap_type = heap } in ref_names ty ≡ ref_names ty ++ []
heap_alone nullable (Abstract ty) = refl
heap_alone nullable (Shared ty) = refl
heap_alone nullable (Concrete id) = refl
heap_alone nullable (Exact id) = refl

const_alone : (value : Constant) → Holds value ∷ [] ≡ op_names (const_of value) ++ []
const_alone (I32 n) = refl
const_alone (I64 n) = refl
const_alone (F32 bits) = refl
const_alone (F64 bits) = refl
const_alone (V128 bits) = refl

pub exprs_tell_ops : ExprsTellOps
exprs_tell_ops («Value» value) = const_alone value
exprs_tell_ops (Global global) = refl
exprs_tell_ops (RefNull ty) = heap_alone ty.nullable ty.heap_type
exprs_tell_ops (RefFunc func) = refl
exprs_tell_ops (Extended ops) = refl

heap_tells_renamed : (r : Renaming) (nullable : Bool) (heap : HeapType) → let ty : RefType = record { nullable = nullable; heap_type = heap } in
    ref_names (renamed_ref r.types ty) ≡ map (renamed_event r) (ref_names ty)
heap_tells_renamed r nullable (Abstract ty) = refl
heap_tells_renamed r nullable (Shared ty) = refl
heap_tells_renamed r nullable (Concrete id) = refl
heap_tells_renamed r nullable (Exact id) = refl

pub tells_renamed : TellsRenamed
tells_renamed r (RefNullOp ty) = heap_tells_renamed r ty.nullable ty.heap_type
tells_renamed r op = refl

heap_tells_all : (r s : Renaming) (nullable : Bool) (heap : HeapType) → let ty : RefType = record { nullable = nullable; heap_type = heap } in
    map (renamed_event r) (ref_names ty) ≡ map (renamed_event s) (ref_names ty) → renamed_ref r.types ty ≡ renamed_ref s.types ty
heap_tells_all r s nullable (Abstract ty) e = refl
heap_tells_all r s nullable (Shared ty) e = refl
heap_tells_all r s nullable (Concrete id) e =
    let same : r.types id ≡ s.types id = cc in
    ap (λ (n : ℕ). let ty : RefType = record { nullable = nullable; heap_type = Concrete n } in ty) same
heap_tells_all r s nullable (Exact id) e =
    let same : r.types id ≡ s.types id = cc in
    ap (λ (n : ℕ). let ty : RefType = record { nullable = nullable; heap_type = Exact n } in ty) same

pub tells_all_names : TellsAllNames
tells_all_names r s (GlobalGet global) e = cc
tells_all_names r s (RefNullOp ty) e = ap RefNullOp (heap_tells_all r s ty.nullable ty.heap_type e)
tells_all_names r s (RefFuncOp func) e = cc
tells_all_names r s (StructNew ty) e = cc
tells_all_names r s (StructNewDefault ty) e = cc
tells_all_names r s (ArrayNew ty) e = cc
tells_all_names r s (ArrayNewDefault ty) e = cc
tells_all_names r s (ArrayNewFixed ty size) e = cc
tells_all_names r s op e = refl

heap_tells_name : (nullable : Bool) (heap : HeapType) → let ty : RefType = record { nullable = nullable; heap_type = heap } in
    ref_names ty ≡ map (λ id. NamesType id) (option_to_list (ref_name ty))
heap_tells_name nullable (Abstract ty) = refl
heap_tells_name nullable (Shared ty) = refl
heap_tells_name nullable (Concrete id) = refl
heap_tells_name nullable (Exact id) = refl

pub refs_tell_names : RefsTellNames
refs_tell_names ty = heap_tells_name ty.nullable ty.heap_type

pub values_tell_names : ValuesTellNames
values_tell_names (Val.Ref ty) = refs_tell_names ty
values_tell_names Val.I32 = refl
values_tell_names Val.I64 = refl
values_tell_names Val.F32 = refl
values_tell_names Val.F64 = refl
values_tell_names Val.V128 = refl
