-- Constant expressions with their indices sent through maps.
use Rattle.std.proofs.Common.{◌≡◌, ◌∙◌, ℕ, All, List, [], ◌∷◌, map, IfSome, refl, ap, sym}
use Rattle.std.proofs.lemmas.List.{length-map, with_items_is}
use Rattle.std.proofs.lemmas.List.Elements.{All-head, All-tail}
use Rattle.walrus_types.specs.walrus_forms.declared.value.HeapType.{HeapType}
use Rattle.walrus_types.specs.walrus_forms.declared.value.HeapType.TheVariants.{Abstract, Shared, Concrete, Exact}
use Rattle.walrus_types.specs.walrus_forms.Values.{heap_name}
use Rattle.walrus_types.specs.walrus_forms.Renaming.{renamed_heap}
use Rattle.walrus_instr.specs.declared.instr.Value.{Value as Constant}
use Rattle.walrus_instr.specs.declared.instr.Value.TheVariants.{I32, I64, F32, F64, V128}
use Rattle.walrus_instr.specs.declared.const_expr.ConstOp.{ConstOp}
use Rattle.walrus_instr.specs.declared.const_expr.ConstOp.TheVariants.{GlobalGet, RefNull as RefNullOp, RefFunc as RefFuncOp, StructNew, StructNewDefault, ArrayNew, ArrayNewDefault, ArrayNewFixed}
use Rattle.walrus_instr.specs.declared.const_expr.ConstExpr.TheVariants.{«Value», Global, RefNull, RefFunc, Extended}
use Rattle.walrus_instr.specs.Constants.{const_of}
use Rattle.walrus_instr.specs.Renamed.{Renaming, renamed_op, Undoes, OpsAreRenamed, OpsComeBack}

const_stays : (r : Renaming) (value : Constant) → const_of value ∷ [] ≡ renamed_op r (const_of value) ∷ []
const_stays r (I32 n) = refl
const_stays r (I64 n) = refl
const_stays r (F32 bits) = refl
const_stays r (F64 bits) = refl
const_stays r (V128 bits) = refl

pub ops_are_renamed : OpsAreRenamed
ops_are_renamed r («Value» value) = const_stays r value
ops_are_renamed r (Global global) = refl
ops_are_renamed r (RefNull ty) = refl
ops_are_renamed r (RefFunc func) = refl
ops_are_renamed r (Extended ops) = with_items_is ops (map (renamed_op r) ops.items) (length-map ops.items (renamed_op r) ∙ sym ops.ok.0)

heap_back : (back there : ℕ → ℕ) (ty : HeapType) → IfSome (heap_name ty) (λ name. back (there name) ≡ name) → renamed_heap back (renamed_heap there ty) ≡ ty
heap_back back there (Abstract ty) h = refl
heap_back back there (Shared ty) h = refl
heap_back back there (Concrete name) h = ap Concrete h
heap_back back there (Exact name) h = ap Exact h

op_back : (back there : Renaming) (op : ConstOp) → Undoes back there op → renamed_op back (renamed_op there op) ≡ op
op_back back there (GlobalGet global) h = ap GlobalGet h
op_back back there (RefNullOp ty) h = ap (λ (heap : HeapType). RefNullOp (record { nullable = ty.nullable; heap_type = heap })) (heap_back back.types there.types ty.heap_type h)
op_back back there (RefFuncOp func) h = ap RefFuncOp h
op_back back there (StructNew ty) h = ap StructNew h
op_back back there (StructNewDefault ty) h = ap StructNewDefault h
op_back back there (ArrayNew ty) h = ap ArrayNew h
op_back back there (ArrayNewDefault ty) h = ap ArrayNewDefault h
op_back back there (ArrayNewFixed ty size) h = ap (λ (t : ℕ). ArrayNewFixed t size) h
op_back back there op h = refl

list_back : (back there : Renaming) (ops : List ConstOp) → All (Undoes back there) ops → map (renamed_op back) (map (renamed_op there) ops) ≡ ops
list_back back there [] h = refl
list_back back there (op ∷ ops) h =
    let P : ConstOp → Type 0 = Undoes back there in
    let e = op_back back there op (All-head P op ops h) in
    let f = list_back back there ops (All-tail P op ops h) in
    cc

pub ops_come_back : OpsComeBack
ops_come_back there back ops expr h e = ops_are_renamed back expr ∙ ap (map (renamed_op back)) e ∙ list_back back there ops h
