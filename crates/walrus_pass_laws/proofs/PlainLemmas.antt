-- Lemmas: each plain instruction has an operator of its own.
use Rattle.std.specs.Prelude.{◌≡◌, Bool, true, Option, Some, None, Ok, refl}
use Rattle.wasm_references.specs.wasm_operators.Operators.{Seen}
use Rattle.walrus_walks.specs.walrus_forms.declared.value.HeapType.{HeapType}
use Rattle.walrus_walks.specs.walrus_forms.declared.value.HeapType.TheVariants.{Abstract, Shared, Concrete, Exact}
use Rattle.walrus_walks.specs.walrus_forms.declared.value.ValType.{ValType}
use Rattle.walrus_walks.specs.walrus_forms.declared.value.ValType.TheVariants.{I32, I64, F32, F64, V128, Ref}
use Rattle.walrus_walks.specs.walrus_instr.declared.instr.Instr.{Instr}
use Rattle.walrus_walks.specs.walrus_instr.declared.instr.Instr.TheVariants as instrs
use Rattle.walrus_walks.specs.walrus_instr.declared.instr.Value.TheVariants as constants
use Rattle.walrus_meaning.specs.Words.{itself, plain_or_nop, plain_seen}
use Rattle.walrus_meaning.specs.walrus_body_writer.walrus_pairing.Looks.{Or}
use Rattle.walrus_meaning.specs.walrus_body_writer.walrus_pairing.Write.{operator_at}
use Rattle.walrus_meaning.specs.Told.{NamesAreTold}
use Rattle.walrus_pass_laws.specs.Plain.{PlainHaveOperators, PlainNameWhatIsTold, is_plain}

-- there is one
abbrev Has : Or (Option Seen) → Type 0
Has o = o ≡ Ok (Some (plain_or_nop o))

null_has : (nullable : Bool) (heap : HeapType) → Has (operator_at itself (instrs.RefNull (record { nullable = nullable; heap_type = heap })))
unfolding operator_at
null_has nullable (Abstract ty) = refl
null_has nullable (Shared ty) = refl
null_has nullable (Concrete id) = refl
null_has nullable (Exact id) = refl

test_has : (nullable : Bool) (heap : HeapType) → Has (operator_at itself (instrs.RefTest (record { nullable = nullable; heap_type = heap })))
unfolding operator_at
test_has nullable (Abstract ty) = refl
test_has nullable (Shared ty) = refl
test_has nullable (Concrete id) = refl
test_has nullable (Exact id) = refl

cast_has : (nullable : Bool) (heap : HeapType) → Has (operator_at itself (instrs.RefCast (record { nullable = nullable; heap_type = heap })))
unfolding operator_at
cast_has nullable (Abstract ty) = refl
cast_has nullable (Shared ty) = refl
cast_has nullable (Concrete id) = refl
cast_has nullable (Exact id) = refl

of_ref : (nullable : Bool) (heap : HeapType) → Has (operator_at itself (instrs.Select (Some (Ref (record { nullable = nullable; heap_type = heap })))))
unfolding operator_at
of_ref nullable (Abstract ty) = refl
of_ref nullable (Shared ty) = refl
of_ref nullable (Concrete id) = refl
of_ref nullable (Exact id) = refl

select_has : (ty : ValType) → Has (operator_at itself (instrs.Select (Some ty)))
unfolding operator_at
select_has I32 = refl
select_has I64 = refl
select_has F32 = refl
select_has F64 = refl
select_has V128 = refl
select_has (Ref ty) = of_ref ty.nullable ty.heap_type

has : (i : Instr) → is_plain i ≡ true → Has (operator_at itself i)
unfolding operator_at
has (instrs.Block seq) e = absurd cc
has (instrs.Loop seq) e = absurd cc
has (instrs.IfElse consequent alternative) e = absurd cc
has (instrs.Try seq catches) e = absurd cc
has (instrs.TryTable seq catches) e = absurd cc
has instrs.Unreachable e = refl
has (instrs.Br block) e = absurd cc
has (instrs.BrIf block) e = absurd cc
has (instrs.BrTable other blocks) e = absurd cc
has (instrs.BrOnNull block) e = absurd cc
has (instrs.BrOnNonNull block) e = absurd cc
has (instrs.BrOnCast block from_ty to_ty) e = absurd cc
has (instrs.BrOnCastFail block from_ty to_ty) e = absurd cc
has instrs.Return e = refl
has (instrs.Throw tag) e = refl
has instrs.ThrowRef e = refl
has (instrs.Rethrow relative_depth) e = absurd cc
has (instrs.Call func) e = refl
has (instrs.CallIndirect ty table) e = refl
has (instrs.CallRef ty) e = refl
has (instrs.ReturnCall func) e = refl
has (instrs.ReturnCallIndirect ty table) e = refl
has (instrs.ReturnCallRef ty) e = refl
has instrs.Drop e = refl
has (instrs.Select None) e = refl
has (instrs.Select (Some ty)) e = select_has ty
has (instrs.Const (constants.I32 z)) e = refl
has (instrs.Const (constants.I64 z)) e = refl
has (instrs.Const (constants.F32 bits)) e = refl
has (instrs.Const (constants.F64 bits)) e = refl
has (instrs.Const (constants.V128 bits)) e = refl
has (instrs.Unop op) e = refl
has (instrs.Binop op) e = refl
has (instrs.TernOp op) e = refl
has instrs.I64Add128 e = refl
has instrs.I64Sub128 e = refl
has instrs.V128Bitselect e = refl
has instrs.I8x16Swizzle e = refl
has (instrs.I8x16Shuffle indices) e = refl
has (instrs.LocalGet local) e = refl
has (instrs.LocalSet local) e = refl
has (instrs.LocalTee local) e = refl
has (instrs.GlobalGet global) e = refl
has (instrs.GlobalSet global) e = refl
has (instrs.TableGet table) e = refl
has (instrs.TableSet table) e = refl
has (instrs.TableGrow table) e = refl
has (instrs.TableSize table) e = refl
has (instrs.TableFill table) e = refl
has (instrs.TableInit table elem) e = refl
has (instrs.ElemDrop elem) e = refl
has (instrs.TableCopy src dst) e = refl
has (instrs.Load memory kind arg) e = refl
has (instrs.Store memory kind arg) e = refl
has (instrs.LoadSimd memory kind arg) e = refl
has (instrs.MemorySize memory) e = refl
has (instrs.MemoryGrow memory) e = refl
has (instrs.MemoryInit memory segment) e = refl
has (instrs.DataDrop segment) e = refl
has (instrs.MemoryCopy src dst) e = refl
has (instrs.MemoryFill memory) e = refl
has (instrs.AtomicRmw memory op width arg) e = refl
has (instrs.Cmpxchg memory width arg) e = refl
has (instrs.AtomicNotify memory arg) e = refl
has (instrs.AtomicWait memory arg sixty_four) e = refl
has instrs.AtomicFence e = refl
has (instrs.RefNull ty) e = null_has ty.nullable ty.heap_type
has instrs.RefIsNull e = refl
has (instrs.RefFunc func) e = refl
has instrs.RefEq e = refl
has instrs.RefAsNonNull e = refl
has (instrs.RefTest ty) e = test_has ty.nullable ty.heap_type
has (instrs.RefCast ty) e = cast_has ty.nullable ty.heap_type
has instrs.RefI31 e = refl
has instrs.I31GetS e = refl
has instrs.I31GetU e = refl
has instrs.AnyConvertExtern e = refl
has instrs.ExternConvertAny e = refl
has (instrs.StructNew ty) e = refl
has (instrs.StructNewDefault ty) e = refl
has (instrs.StructGet ty field) e = refl
has (instrs.StructGetS ty field) e = refl
has (instrs.StructGetU ty field) e = refl
has (instrs.StructSet ty field) e = refl
has (instrs.ArrayNew ty) e = refl
has (instrs.ArrayNewDefault ty) e = refl
has (instrs.ArrayNewFixed ty size) e = refl
has (instrs.ArrayNewData ty segment) e = refl
has (instrs.ArrayNewElem ty elem) e = refl
has (instrs.ArrayGet ty) e = refl
has (instrs.ArrayGetS ty) e = refl
has (instrs.ArrayGetU ty) e = refl
has (instrs.ArraySet ty) e = refl
has instrs.ArrayLen e = refl
has (instrs.ArrayFill ty) e = refl
has (instrs.ArrayCopy src dst) e = refl
has (instrs.ArrayInitData ty segment) e = refl
has (instrs.ArrayInitElem ty elem) e = refl

pub plain_have : PlainHaveOperators
plain_have i e = has i e

pub plain_told : NamesAreTold → PlainNameWhatIsTold
plain_told told i e = told i (plain_seen i) (plain_have i e)
