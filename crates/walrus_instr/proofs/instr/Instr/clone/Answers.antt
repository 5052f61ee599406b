use Rattle.std.proofs.Common.{refl, rules, subst, sym}
use Rattle.std.proofs.lemmas.List.Elements.{same_from_all_zip}
use Rattle.walrus_instr.specs.declared.instr.Instr.{Instr}
use Rattle.walrus_instr.specs.declared.instr.Instr.TheVariants.{Block, Loop, IfElse, Unreachable, Br, BrIf, BrOnNull, BrOnNonNull, BrOnCast, BrOnCastFail, Return, Throw, ThrowRef, Rethrow, Call, CallIndirect, CallRef, ReturnCall, ReturnCallIndirect, ReturnCallRef, Drop, Select, Const, Unop, Binop, TernOp, I64Add128, I64Sub128, V128Bitselect, I8x16Swizzle, I8x16Shuffle, LocalGet, LocalSet, LocalTee, GlobalGet, GlobalSet, TableGet, TableSet, TableGrow, TableSize, TableFill, TableInit, ElemDrop, TableCopy, Load, Store, LoadSimd, MemorySize, MemoryGrow, MemoryCopy, MemoryFill, AtomicRmw, Cmpxchg, AtomicNotify, AtomicWait, AtomicFence, RefNull, RefIsNull, RefFunc, RefEq, RefAsNonNull, RefTest, RefCast, RefI31, I31GetS, I31GetU, AnyConvertExtern, ExternConvertAny, StructNew, StructNewDefault, StructGet, StructGetS, StructGetU, StructSet, ArrayNew, ArrayNewDefault, ArrayNewFixed, ArrayNewElem, ArrayGet, ArrayGetS, ArrayGetU, ArraySet, ArrayLen, ArrayFill, ArrayCopy, ArrayInitElem}
use Rattle.walrus_instr.specs.Copies.{IsInstrCopy}
use Rattle.walrus_instr.proofs.instr.Instr.clone.Goals as goal

pub returns-in_ok-clone-in-Try : goal.returns-in_ok-clone-in-Try
returns-in_ok-clone-in-Try c = rw c.in-Try.is (c.in_ok-clone-in-Try.field-0, refl, same_from_all_zip _ _ _ c.in_ok-clone-in-Try.ensures.cases.0 (λ x y e. e))

pub returns-in_ok-clone-in-TryTable : goal.returns-in_ok-clone-in-TryTable
returns-in_ok-clone-in-TryTable c = rw c.in-TryTable.is (c.in_ok-clone-in-TryTable.field-0, refl, same_from_all_zip _ _ _ c.in_ok-clone-in-TryTable.ensures.cases.0 (λ x y e. e))

pub returns-in_ok-clone-in-BrTable : goal.returns-in_ok-clone-in-BrTable
returns-in_ok-clone-in-BrTable c = rw c.in-BrTable.is (c.in_ok-clone-in-BrTable.field-0, refl, search (rules, same_from_all_zip))

pub returns-in-Block : goal.returns-in-Block
returns-in-Block c = subst (λ (i : Instr). IsInstrCopy i (Block c.in-Block.seq)) (sym c.in-Block.is) refl

pub returns-in-Loop : goal.returns-in-Loop
returns-in-Loop c = subst (λ (i : Instr). IsInstrCopy i (Loop c.in-Loop.seq)) (sym c.in-Loop.is) refl

pub returns-in-IfElse : goal.returns-in-IfElse
returns-in-IfElse c = subst (λ (i : Instr). IsInstrCopy i (IfElse c.in-IfElse.consequent c.in-IfElse.alternative)) (sym c.in-IfElse.is) refl

pub returns-in-Unreachable : goal.returns-in-Unreachable
returns-in-Unreachable c = subst (λ (i : Instr). IsInstrCopy i Unreachable) (sym c.in-Unreachable.is) refl

pub returns-in-Br : goal.returns-in-Br
returns-in-Br c = subst (λ (i : Instr). IsInstrCopy i (Br c.in-Br.block)) (sym c.in-Br.is) refl

pub returns-in-BrIf : goal.returns-in-BrIf
returns-in-BrIf c = subst (λ (i : Instr). IsInstrCopy i (BrIf c.in-BrIf.block)) (sym c.in-BrIf.is) refl

pub returns-in-BrOnNull : goal.returns-in-BrOnNull
returns-in-BrOnNull c = subst (λ (i : Instr). IsInstrCopy i (BrOnNull c.in-BrOnNull.block)) (sym c.in-BrOnNull.is) refl

pub returns-in-BrOnNonNull : goal.returns-in-BrOnNonNull
returns-in-BrOnNonNull c = subst (λ (i : Instr). IsInstrCopy i (BrOnNonNull c.in-BrOnNonNull.block)) (sym c.in-BrOnNonNull.is) refl

pub returns-in-BrOnCast : goal.returns-in-BrOnCast
returns-in-BrOnCast c = subst (λ (i : Instr). IsInstrCopy i (BrOnCast c.in-BrOnCast.block c.in-BrOnCast.from_ty c.in-BrOnCast.to_ty)) (sym c.in-BrOnCast.is) refl

pub returns-in-BrOnCastFail : goal.returns-in-BrOnCastFail
returns-in-BrOnCastFail c = subst (λ (i : Instr). IsInstrCopy i (BrOnCastFail c.in-BrOnCastFail.block c.in-BrOnCastFail.from_ty c.in-BrOnCastFail.to_ty)) (sym c.in-BrOnCastFail.is) refl

pub returns-in-Return : goal.returns-in-Return
returns-in-Return c = subst (λ (i : Instr). IsInstrCopy i Return) (sym c.in-Return.is) refl

pub returns-in-Throw : goal.returns-in-Throw
returns-in-Throw c = subst (λ (i : Instr). IsInstrCopy i (Throw c.in-Throw.tag)) (sym c.in-Throw.is) refl

pub returns-in-ThrowRef : goal.returns-in-ThrowRef
returns-in-ThrowRef c = subst (λ (i : Instr). IsInstrCopy i ThrowRef) (sym c.in-ThrowRef.is) refl

pub returns-in-Rethrow : goal.returns-in-Rethrow
returns-in-Rethrow c = subst (λ (i : Instr). IsInstrCopy i (Rethrow c.in-Rethrow.relative_depth)) (sym c.in-Rethrow.is) refl

pub returns-in-Call : goal.returns-in-Call
returns-in-Call c = subst (λ (i : Instr). IsInstrCopy i (Call c.in-Call.func)) (sym c.in-Call.is) refl

pub returns-in-CallIndirect : goal.returns-in-CallIndirect
returns-in-CallIndirect c = subst (λ (i : Instr). IsInstrCopy i (CallIndirect c.in-CallIndirect.ty c.in-CallIndirect.table)) (sym c.in-CallIndirect.is) refl

pub returns-in-CallRef : goal.returns-in-CallRef
returns-in-CallRef c = subst (λ (i : Instr). IsInstrCopy i (CallRef c.in-CallRef.ty)) (sym c.in-CallRef.is) refl

pub returns-in-ReturnCall : goal.returns-in-ReturnCall
returns-in-ReturnCall c = subst (λ (i : Instr). IsInstrCopy i (ReturnCall c.in-ReturnCall.func)) (sym c.in-ReturnCall.is) refl

pub returns-in-ReturnCallIndirect : goal.returns-in-ReturnCallIndirect
returns-in-ReturnCallIndirect c = subst (λ (i : Instr). IsInstrCopy i (ReturnCallIndirect c.in-ReturnCallIndirect.ty c.in-ReturnCallIndirect.table)) (sym c.in-ReturnCallIndirect.is) refl

pub returns-in-ReturnCallRef : goal.returns-in-ReturnCallRef
returns-in-ReturnCallRef c = subst (λ (i : Instr). IsInstrCopy i (ReturnCallRef c.in-ReturnCallRef.ty)) (sym c.in-ReturnCallRef.is) refl

pub returns-in-Drop : goal.returns-in-Drop
returns-in-Drop c = subst (λ (i : Instr). IsInstrCopy i Drop) (sym c.in-Drop.is) refl

pub returns-in-Select : goal.returns-in-Select
returns-in-Select c = subst (λ (i : Instr). IsInstrCopy i (Select c.in-Select.ty)) (sym c.in-Select.is) refl

pub returns-in-Const : goal.returns-in-Const
returns-in-Const c = subst (λ (i : Instr). IsInstrCopy i (Const c.in-Const.value)) (sym c.in-Const.is) refl

pub returns-in-Unop : goal.returns-in-Unop
returns-in-Unop c = subst (λ (i : Instr). IsInstrCopy i (Unop c.in-Unop.op)) (sym c.in-Unop.is) refl

pub returns-in-Binop : goal.returns-in-Binop
returns-in-Binop c = subst (λ (i : Instr). IsInstrCopy i (Binop c.in-Binop.op)) (sym c.in-Binop.is) refl

pub returns-in-TernOp : goal.returns-in-TernOp
returns-in-TernOp c = subst (λ (i : Instr). IsInstrCopy i (TernOp c.in-TernOp.op)) (sym c.in-TernOp.is) refl

pub returns-in-I64Add128 : goal.returns-in-I64Add128
returns-in-I64Add128 c = subst (λ (i : Instr). IsInstrCopy i I64Add128) (sym c.in-I64Add128.is) refl

pub returns-in-I64Sub128 : goal.returns-in-I64Sub128
returns-in-I64Sub128 c = subst (λ (i : Instr). IsInstrCopy i I64Sub128) (sym c.in-I64Sub128.is) refl

pub returns-in-V128Bitselect : goal.returns-in-V128Bitselect
returns-in-V128Bitselect c = subst (λ (i : Instr). IsInstrCopy i V128Bitselect) (sym c.in-V128Bitselect.is) refl

pub returns-in-I8x16Swizzle : goal.returns-in-I8x16Swizzle
returns-in-I8x16Swizzle c = subst (λ (i : Instr). IsInstrCopy i I8x16Swizzle) (sym c.in-I8x16Swizzle.is) refl

pub returns-in-I8x16Shuffle : goal.returns-in-I8x16Shuffle
returns-in-I8x16Shuffle c = subst (λ (i : Instr). IsInstrCopy i (I8x16Shuffle c.in-I8x16Shuffle.indices)) (sym c.in-I8x16Shuffle.is) refl

pub returns-in-LocalGet : goal.returns-in-LocalGet
returns-in-LocalGet c = subst (λ (i : Instr). IsInstrCopy i (LocalGet c.in-LocalGet.local)) (sym c.in-LocalGet.is) refl

pub returns-in-LocalSet : goal.returns-in-LocalSet
returns-in-LocalSet c = subst (λ (i : Instr). IsInstrCopy i (LocalSet c.in-LocalSet.local)) (sym c.in-LocalSet.is) refl

pub returns-in-LocalTee : goal.returns-in-LocalTee
returns-in-LocalTee c = subst (λ (i : Instr). IsInstrCopy i (LocalTee c.in-LocalTee.local)) (sym c.in-LocalTee.is) refl

pub returns-in-GlobalGet : goal.returns-in-GlobalGet
returns-in-GlobalGet c = subst (λ (i : Instr). IsInstrCopy i (GlobalGet c.in-GlobalGet.global)) (sym c.in-GlobalGet.is) refl

pub returns-in-GlobalSet : goal.returns-in-GlobalSet
returns-in-GlobalSet c = subst (λ (i : Instr). IsInstrCopy i (GlobalSet c.in-GlobalSet.global)) (sym c.in-GlobalSet.is) refl

pub returns-in-TableGet : goal.returns-in-TableGet
returns-in-TableGet c = subst (λ (i : Instr). IsInstrCopy i (TableGet c.in-TableGet.table)) (sym c.in-TableGet.is) refl

pub returns-in-TableSet : goal.returns-in-TableSet
returns-in-TableSet c = subst (λ (i : Instr). IsInstrCopy i (TableSet c.in-TableSet.table)) (sym c.in-TableSet.is) refl

pub returns-in-TableGrow : goal.returns-in-TableGrow
returns-in-TableGrow c = subst (λ (i : Instr). IsInstrCopy i (TableGrow c.in-TableGrow.table)) (sym c.in-TableGrow.is) refl

pub returns-in-TableSize : goal.returns-in-TableSize
returns-in-TableSize c = subst (λ (i : Instr). IsInstrCopy i (TableSize c.in-TableSize.table)) (sym c.in-TableSize.is) refl

pub returns-in-TableFill : goal.returns-in-TableFill
returns-in-TableFill c = subst (λ (i : Instr). IsInstrCopy i (TableFill c.in-TableFill.table)) (sym c.in-TableFill.is) refl

pub returns-in-TableInit : goal.returns-in-TableInit
returns-in-TableInit c = subst (λ (i : Instr). IsInstrCopy i (TableInit c.in-TableInit.table c.in-TableInit.elem)) (sym c.in-TableInit.is) refl

pub returns-in-ElemDrop : goal.returns-in-ElemDrop
returns-in-ElemDrop c = subst (λ (i : Instr). IsInstrCopy i (ElemDrop c.in-ElemDrop.elem)) (sym c.in-ElemDrop.is) refl

pub returns-in-TableCopy : goal.returns-in-TableCopy
returns-in-TableCopy c = subst (λ (i : Instr). IsInstrCopy i (TableCopy c.in-TableCopy.src c.in-TableCopy.dst)) (sym c.in-TableCopy.is) refl

pub returns-in-Load : goal.returns-in-Load
returns-in-Load c = subst (λ (i : Instr). IsInstrCopy i (Load c.in-Load.memory c.in-Load.kind c.in-Load.arg)) (sym c.in-Load.is) refl

pub returns-in-Store : goal.returns-in-Store
returns-in-Store c = subst (λ (i : Instr). IsInstrCopy i (Store c.in-Store.memory c.in-Store.kind c.in-Store.arg)) (sym c.in-Store.is) refl

pub returns-in-LoadSimd : goal.returns-in-LoadSimd
returns-in-LoadSimd c = subst (λ (i : Instr). IsInstrCopy i (LoadSimd c.in-LoadSimd.memory c.in-LoadSimd.kind c.in-LoadSimd.arg)) (sym c.in-LoadSimd.is) refl

pub returns-in-MemorySize : goal.returns-in-MemorySize
returns-in-MemorySize c = subst (λ (i : Instr). IsInstrCopy i (MemorySize c.in-MemorySize.memory)) (sym c.in-MemorySize.is) refl

pub returns-in-MemoryGrow : goal.returns-in-MemoryGrow
returns-in-MemoryGrow c = subst (λ (i : Instr). IsInstrCopy i (MemoryGrow c.in-MemoryGrow.memory)) (sym c.in-MemoryGrow.is) refl

pub returns-in-MemoryCopy : goal.returns-in-MemoryCopy
returns-in-MemoryCopy c = subst (λ (i : Instr). IsInstrCopy i (MemoryCopy c.in-MemoryCopy.src c.in-MemoryCopy.dst)) (sym c.in-MemoryCopy.is) refl

pub returns-in-MemoryFill : goal.returns-in-MemoryFill
returns-in-MemoryFill c = subst (λ (i : Instr). IsInstrCopy i (MemoryFill c.in-MemoryFill.memory)) (sym c.in-MemoryFill.is) refl

pub returns-in-AtomicRmw : goal.returns-in-AtomicRmw
returns-in-AtomicRmw c = subst (λ (i : Instr). IsInstrCopy i (AtomicRmw c.in-AtomicRmw.memory c.in-AtomicRmw.op c.in-AtomicRmw.width c.in-AtomicRmw.arg)) (sym c.in-AtomicRmw.is) refl

pub returns-in-Cmpxchg : goal.returns-in-Cmpxchg
returns-in-Cmpxchg c = subst (λ (i : Instr). IsInstrCopy i (Cmpxchg c.in-Cmpxchg.memory c.in-Cmpxchg.width c.in-Cmpxchg.arg)) (sym c.in-Cmpxchg.is) refl

pub returns-in-AtomicNotify : goal.returns-in-AtomicNotify
returns-in-AtomicNotify c = subst (λ (i : Instr). IsInstrCopy i (AtomicNotify c.in-AtomicNotify.memory c.in-AtomicNotify.arg)) (sym c.in-AtomicNotify.is) refl

pub returns-in-AtomicWait : goal.returns-in-AtomicWait
returns-in-AtomicWait c = subst (λ (i : Instr). IsInstrCopy i (AtomicWait c.in-AtomicWait.memory c.in-AtomicWait.arg c.in-AtomicWait.sixty_four)) (sym c.in-AtomicWait.is) refl

pub returns-in-AtomicFence : goal.returns-in-AtomicFence
returns-in-AtomicFence c = subst (λ (i : Instr). IsInstrCopy i AtomicFence) (sym c.in-AtomicFence.is) refl

pub returns-in-RefNull : goal.returns-in-RefNull
returns-in-RefNull c = subst (λ (i : Instr). IsInstrCopy i (RefNull c.in-RefNull.ty)) (sym c.in-RefNull.is) refl

pub returns-in-RefIsNull : goal.returns-in-RefIsNull
returns-in-RefIsNull c = subst (λ (i : Instr). IsInstrCopy i RefIsNull) (sym c.in-RefIsNull.is) refl

pub returns-in-RefFunc : goal.returns-in-RefFunc
returns-in-RefFunc c = subst (λ (i : Instr). IsInstrCopy i (RefFunc c.in-RefFunc.func)) (sym c.in-RefFunc.is) refl

pub returns-in-RefEq : goal.returns-in-RefEq
returns-in-RefEq c = subst (λ (i : Instr). IsInstrCopy i RefEq) (sym c.in-RefEq.is) refl

pub returns-in-RefAsNonNull : goal.returns-in-RefAsNonNull
returns-in-RefAsNonNull c = subst (λ (i : Instr). IsInstrCopy i RefAsNonNull) (sym c.in-RefAsNonNull.is) refl

pub returns-in-RefTest : goal.returns-in-RefTest
returns-in-RefTest c = subst (λ (i : Instr). IsInstrCopy i (RefTest c.in-RefTest.ty)) (sym c.in-RefTest.is) refl

pub returns-in-RefCast : goal.returns-in-RefCast
returns-in-RefCast c = subst (λ (i : Instr). IsInstrCopy i (RefCast c.in-RefCast.ty)) (sym c.in-RefCast.is) refl

pub returns-in-RefI31 : goal.returns-in-RefI31
returns-in-RefI31 c = subst (λ (i : Instr). IsInstrCopy i RefI31) (sym c.in-RefI31.is) refl

pub returns-in-I31GetS : goal.returns-in-I31GetS
returns-in-I31GetS c = subst (λ (i : Instr). IsInstrCopy i I31GetS) (sym c.in-I31GetS.is) refl

pub returns-in-I31GetU : goal.returns-in-I31GetU
returns-in-I31GetU c = subst (λ (i : Instr). IsInstrCopy i I31GetU) (sym c.in-I31GetU.is) refl

pub returns-in-AnyConvertExtern : goal.returns-in-AnyConvertExtern
returns-in-AnyConvertExtern c = subst (λ (i : Instr). IsInstrCopy i AnyConvertExtern) (sym c.in-AnyConvertExtern.is) refl

pub returns-in-ExternConvertAny : goal.returns-in-ExternConvertAny
returns-in-ExternConvertAny c = subst (λ (i : Instr). IsInstrCopy i ExternConvertAny) (sym c.in-ExternConvertAny.is) refl

pub returns-in-StructNew : goal.returns-in-StructNew
returns-in-StructNew c = subst (λ (i : Instr). IsInstrCopy i (StructNew c.in-StructNew.ty)) (sym c.in-StructNew.is) refl

pub returns-in-StructNewDefault : goal.returns-in-StructNewDefault
returns-in-StructNewDefault c = subst (λ (i : Instr). IsInstrCopy i (StructNewDefault c.in-StructNewDefault.ty)) (sym c.in-StructNewDefault.is) refl

pub returns-in-StructGet : goal.returns-in-StructGet
returns-in-StructGet c = subst (λ (i : Instr). IsInstrCopy i (StructGet c.in-StructGet.ty c.in-StructGet.field)) (sym c.in-StructGet.is) refl

pub returns-in-StructGetS : goal.returns-in-StructGetS
returns-in-StructGetS c = subst (λ (i : Instr). IsInstrCopy i (StructGetS c.in-StructGetS.ty c.in-StructGetS.field)) (sym c.in-StructGetS.is) refl

pub returns-in-StructGetU : goal.returns-in-StructGetU
returns-in-StructGetU c = subst (λ (i : Instr). IsInstrCopy i (StructGetU c.in-StructGetU.ty c.in-StructGetU.field)) (sym c.in-StructGetU.is) refl

pub returns-in-StructSet : goal.returns-in-StructSet
returns-in-StructSet c = subst (λ (i : Instr). IsInstrCopy i (StructSet c.in-StructSet.ty c.in-StructSet.field)) (sym c.in-StructSet.is) refl

pub returns-in-ArrayNew : goal.returns-in-ArrayNew
returns-in-ArrayNew c = subst (λ (i : Instr). IsInstrCopy i (ArrayNew c.in-ArrayNew.ty)) (sym c.in-ArrayNew.is) refl

pub returns-in-ArrayNewDefault : goal.returns-in-ArrayNewDefault
returns-in-ArrayNewDefault c = subst (λ (i : Instr). IsInstrCopy i (ArrayNewDefault c.in-ArrayNewDefault.ty)) (sym c.in-ArrayNewDefault.is) refl

pub returns-in-ArrayNewFixed : goal.returns-in-ArrayNewFixed
returns-in-ArrayNewFixed c = subst (λ (i : Instr). IsInstrCopy i (ArrayNewFixed c.in-ArrayNewFixed.ty c.in-ArrayNewFixed.size)) (sym c.in-ArrayNewFixed.is) refl

pub returns-in-ArrayNewElem : goal.returns-in-ArrayNewElem
returns-in-ArrayNewElem c = subst (λ (i : Instr). IsInstrCopy i (ArrayNewElem c.in-ArrayNewElem.ty c.in-ArrayNewElem.elem)) (sym c.in-ArrayNewElem.is) refl

pub returns-in-ArrayGet : goal.returns-in-ArrayGet
returns-in-ArrayGet c = subst (λ (i : Instr). IsInstrCopy i (ArrayGet c.in-ArrayGet.ty)) (sym c.in-ArrayGet.is) refl

pub returns-in-ArrayGetS : goal.returns-in-ArrayGetS
returns-in-ArrayGetS c = subst (λ (i : Instr). IsInstrCopy i (ArrayGetS c.in-ArrayGetS.ty)) (sym c.in-ArrayGetS.is) refl

pub returns-in-ArrayGetU : goal.returns-in-ArrayGetU
returns-in-ArrayGetU c = subst (λ (i : Instr). IsInstrCopy i (ArrayGetU c.in-ArrayGetU.ty)) (sym c.in-ArrayGetU.is) refl

pub returns-in-ArraySet : goal.returns-in-ArraySet
returns-in-ArraySet c = subst (λ (i : Instr). IsInstrCopy i (ArraySet c.in-ArraySet.ty)) (sym c.in-ArraySet.is) refl

pub returns-in-ArrayLen : goal.returns-in-ArrayLen
returns-in-ArrayLen c = subst (λ (i : Instr). IsInstrCopy i ArrayLen) (sym c.in-ArrayLen.is) refl

pub returns-in-ArrayFill : goal.returns-in-ArrayFill
returns-in-ArrayFill c = subst (λ (i : Instr). IsInstrCopy i (ArrayFill c.in-ArrayFill.ty)) (sym c.in-ArrayFill.is) refl

pub returns-in-ArrayCopy : goal.returns-in-ArrayCopy
returns-in-ArrayCopy c = subst (λ (i : Instr). IsInstrCopy i (ArrayCopy c.in-ArrayCopy.src c.in-ArrayCopy.dst)) (sym c.in-ArrayCopy.is) refl

pub returns-in-ArrayInitElem : goal.returns-in-ArrayInitElem
returns-in-ArrayInitElem c = subst (λ (i : Instr). IsInstrCopy i (ArrayInitElem c.in-ArrayInitElem.ty c.in-ArrayInitElem.elem)) (sym c.in-ArrayInitElem.is) refl
