use Rattle.std.proofs.Common.{refl, subst, sym}
use Rattle.std.specs.Vec.{with_items}
use Rattle.walrus_instr.specs.declared.instr.Instr.{Instr}
use Rattle.walrus_instr.specs.declared.instr.Instr.TheVariants.{ArrayFill, ArrayGet, ArrayGetS, ArrayGetU, ArrayInitData, ArrayInitElem, ArrayNew, ArrayNewData, ArrayNewDefault, ArrayNewElem, ArrayNewFixed, ArraySet, AtomicNotify, AtomicRmw, AtomicWait, Br, BrIf, BrOnNonNull, BrOnNull, BrTable, Call, CallIndirect, CallRef, Cmpxchg, Const, DataDrop, ElemDrop, GlobalGet, GlobalSet, Load, LoadSimd, LocalGet, LocalSet, LocalTee, MemoryFill, MemoryGrow, MemoryInit, MemorySize, RefCast, RefFunc, RefNull, RefTest, ReturnCall, ReturnCallIndirect, ReturnCallRef, Select, Store, StructGet, StructGetS, StructGetU, StructNew, StructNewDefault, StructSet, TableFill, TableGet, TableGrow, TableInit, TableSet, TableSize, Throw, Try, TryTable}
use Rattle.walrus_walks.specs.Events.{NamesSeq}
use Rattle.walrus_walks.specs.Changes.{Handed, LegacyChanged, ClauseChanged, InstrChanged}
use Rattle.walrus_walks.proofs.Threaded.{threads_written}
use Rattle.walrus_walks.proofs.visit_mut.InstrVisitMut.visit_mut.Goals as goal

pub returns-in-Try : goal.returns-in-Try
returns-in-Try g c =
    let step = g.V.VisitorMut.step in
    let before = c.in-Try.catches in
    let v = c.args.visitor.now in
    let r = c.visit_all_mut in
    let after = with_items before r.new.items in
    let G : Instr → Type 0 = λ i. InstrChanged step v i r.new.visitor (Try c.in-Try.seq after) in
    subst G (sym c.in-Try.is) (after, refl, threads_written (LegacyChanged step) v r.new.visitor before c.as_mut_slice.result.now r.new.items c.as_mut_slice.ensures.value r.auto.items r.ensures)

pub returns-in-TryTable : goal.returns-in-TryTable
returns-in-TryTable g c =
    let step = g.V.VisitorMut.step in
    let before = c.in-TryTable.catches in
    let v = c.args.visitor.now in
    let r = c.visit_all_mut-in-TryTable in
    let lent = c.as_mut_slice-in-TryTable in
    let after = with_items before r.new.items in
    let G : Instr → Type 0 = λ i. InstrChanged step v i r.new.visitor (TryTable c.in-TryTable.seq after) in
    subst G (sym c.in-TryTable.is) (after, refl, threads_written (ClauseChanged step) v r.new.visitor before lent.result.now r.new.items lent.ensures.value r.auto.items r.ensures)

pub returns-in-BrTable : goal.returns-in-BrTable
returns-in-BrTable g c =
    let step = g.V.VisitorMut.step in
    let before = c.in-BrTable.blocks in
    let v = c.args.visitor.now in
    let r = c.visit_all_mut-in-BrTable in
    let lent = c.as_mut_slice-in-BrTable in
    let last = c.visit_instr_seq_id_mut in
    let after = with_items before r.new.items in
    let G : Instr → Type 0 = λ i. InstrChanged step v i last.new.self (BrTable last.new.id after) in
    let labels = threads_written (Handed step NamesSeq) v r.new.visitor before lent.result.now r.new.items lent.ensures.value r.auto.items r.ensures in
    subst G (sym c.in-BrTable.is) (after, last.new.id, refl, (r.new.visitor, labels, last.ensures))

pub returns-in-Br : goal.returns-in-Br
returns-in-Br g c =
    let r = c.visit_instr_seq_id_mut-in-Br in
    subst (λ (i : Instr). InstrChanged g.V.VisitorMut.step c.args.visitor.now i r.new.self (Br r.new.id)) (sym c.in-Br.is) (r.new.id, refl, r.ensures)

pub returns-in-BrIf : goal.returns-in-BrIf
returns-in-BrIf g c =
    let r = c.visit_instr_seq_id_mut-in-BrIf in
    subst (λ (i : Instr). InstrChanged g.V.VisitorMut.step c.args.visitor.now i r.new.self (BrIf r.new.id)) (sym c.in-BrIf.is) (r.new.id, refl, r.ensures)

pub returns-in-Call : goal.returns-in-Call
returns-in-Call g c =
    let r = c.visit_function_id_mut in
    subst (λ (i : Instr). InstrChanged g.V.VisitorMut.step c.args.visitor.now i r.new.self (Call r.new.id)) (sym c.in-Call.is) (r.new.id, refl, r.ensures)

pub returns-in-CallIndirect : goal.returns-in-CallIndirect
returns-in-CallIndirect g c =
    let r = c.visit_type_id_mut in let s = c.visit_table_id_mut in
    subst (λ (i : Instr). InstrChanged g.V.VisitorMut.step c.args.visitor.now i s.new.self (CallIndirect r.new.id s.new.id)) (sym c.in-CallIndirect.is) (r.new.id, s.new.id, refl, (r.new.self, r.ensures, s.ensures))

pub returns-in-Select : goal.returns-in-Select
returns-in-Select g c =
    let r = c.visit_written_mut in
    subst (λ (i : Instr). InstrChanged g.V.VisitorMut.step c.args.visitor.now i r.new.visitor (Select r.new.ty)) (sym c.in-Select.is) (r.new.ty, refl, r.ensures)

pub returns-in-Const : goal.returns-in-Const
returns-in-Const g c =
    let r = c.visit_value_mut in
    subst (λ (i : Instr). InstrChanged g.V.VisitorMut.step c.args.visitor.now i r.new.self (Const r.new.value)) (sym c.in-Const.is) (r.new.value, refl, r.ensures)

pub returns-in-LocalGet : goal.returns-in-LocalGet
returns-in-LocalGet g c =
    let r = c.visit_local_id_mut in
    subst (λ (i : Instr). InstrChanged g.V.VisitorMut.step c.args.visitor.now i r.new.self (LocalGet r.new.id)) (sym c.in-LocalGet.is) (r.new.id, refl, r.ensures)

pub returns-in-LocalSet : goal.returns-in-LocalSet
returns-in-LocalSet g c =
    let r = c.visit_local_id_mut-in-LocalSet in
    subst (λ (i : Instr). InstrChanged g.V.VisitorMut.step c.args.visitor.now i r.new.self (LocalSet r.new.id)) (sym c.in-LocalSet.is) (r.new.id, refl, r.ensures)

pub returns-in-LocalTee : goal.returns-in-LocalTee
returns-in-LocalTee g c =
    let r = c.visit_local_id_mut-in-LocalTee in
    subst (λ (i : Instr). InstrChanged g.V.VisitorMut.step c.args.visitor.now i r.new.self (LocalTee r.new.id)) (sym c.in-LocalTee.is) (r.new.id, refl, r.ensures)

pub returns-in-GlobalGet : goal.returns-in-GlobalGet
returns-in-GlobalGet g c =
    let r = c.visit_global_id_mut in
    subst (λ (i : Instr). InstrChanged g.V.VisitorMut.step c.args.visitor.now i r.new.self (GlobalGet r.new.id)) (sym c.in-GlobalGet.is) (r.new.id, refl, r.ensures)

pub returns-in-GlobalSet : goal.returns-in-GlobalSet
returns-in-GlobalSet g c =
    let r = c.visit_global_id_mut-in-GlobalSet in
    subst (λ (i : Instr). InstrChanged g.V.VisitorMut.step c.args.visitor.now i r.new.self (GlobalSet r.new.id)) (sym c.in-GlobalSet.is) (r.new.id, refl, r.ensures)

pub returns-in-Load : goal.returns-in-Load
returns-in-Load g c =
    let r = c.visit_memory_id_mut in
    subst (λ (i : Instr). InstrChanged g.V.VisitorMut.step c.args.visitor.now i r.new.self (Load r.new.id c.in-Load.kind c.in-Load.arg)) (sym c.in-Load.is) (r.new.id, refl, r.ensures)

pub returns-in-Store : goal.returns-in-Store
returns-in-Store g c =
    let r = c.visit_memory_id_mut-in-Store in
    subst (λ (i : Instr). InstrChanged g.V.VisitorMut.step c.args.visitor.now i r.new.self (Store r.new.id c.in-Store.kind c.in-Store.arg)) (sym c.in-Store.is) (r.new.id, refl, r.ensures)

pub returns-in-StructNew : goal.returns-in-StructNew
returns-in-StructNew g c =
    let r = c.visit_type_id_mut-in-StructNew in
    subst (λ (i : Instr). InstrChanged g.V.VisitorMut.step c.args.visitor.now i r.new.self (StructNew r.new.id)) (sym c.in-StructNew.is) (r.new.id, refl, r.ensures)

pub returns-in-StructNewDefault : goal.returns-in-StructNewDefault
returns-in-StructNewDefault g c =
    let r = c.visit_type_id_mut-in-StructNewDefault in
    subst (λ (i : Instr). InstrChanged g.V.VisitorMut.step c.args.visitor.now i r.new.self (StructNewDefault r.new.id)) (sym c.in-StructNewDefault.is) (r.new.id, refl, r.ensures)

pub returns-in-StructGet : goal.returns-in-StructGet
returns-in-StructGet g c =
    let r = c.visit_type_id_mut-in-StructGet in
    subst (λ (i : Instr). InstrChanged g.V.VisitorMut.step c.args.visitor.now i r.new.self (StructGet r.new.id c.in-StructGet.field)) (sym c.in-StructGet.is) (r.new.id, refl, r.ensures)

pub returns-in-StructGetS : goal.returns-in-StructGetS
returns-in-StructGetS g c =
    let r = c.visit_type_id_mut-in-StructGetS in
    subst (λ (i : Instr). InstrChanged g.V.VisitorMut.step c.args.visitor.now i r.new.self (StructGetS r.new.id c.in-StructGetS.field)) (sym c.in-StructGetS.is) (r.new.id, refl, r.ensures)

pub returns-in-StructGetU : goal.returns-in-StructGetU
returns-in-StructGetU g c =
    let r = c.visit_type_id_mut-in-StructGetU in
    subst (λ (i : Instr). InstrChanged g.V.VisitorMut.step c.args.visitor.now i r.new.self (StructGetU r.new.id c.in-StructGetU.field)) (sym c.in-StructGetU.is) (r.new.id, refl, r.ensures)

pub returns-in-StructSet : goal.returns-in-StructSet
returns-in-StructSet g c =
    let r = c.visit_type_id_mut-in-StructSet in
    subst (λ (i : Instr). InstrChanged g.V.VisitorMut.step c.args.visitor.now i r.new.self (StructSet r.new.id c.in-StructSet.field)) (sym c.in-StructSet.is) (r.new.id, refl, r.ensures)

pub returns-in-ArrayNew : goal.returns-in-ArrayNew
returns-in-ArrayNew g c =
    let r = c.visit_type_id_mut-in-ArrayNew in
    subst (λ (i : Instr). InstrChanged g.V.VisitorMut.step c.args.visitor.now i r.new.self (ArrayNew r.new.id)) (sym c.in-ArrayNew.is) (r.new.id, refl, r.ensures)

pub returns-in-ArrayNewDefault : goal.returns-in-ArrayNewDefault
returns-in-ArrayNewDefault g c =
    let r = c.visit_type_id_mut-in-ArrayNewDefault in
    subst (λ (i : Instr). InstrChanged g.V.VisitorMut.step c.args.visitor.now i r.new.self (ArrayNewDefault r.new.id)) (sym c.in-ArrayNewDefault.is) (r.new.id, refl, r.ensures)

pub returns-in-ArrayNewFixed : goal.returns-in-ArrayNewFixed
returns-in-ArrayNewFixed g c =
    let r = c.visit_type_id_mut-in-ArrayNewFixed in
    subst (λ (i : Instr). InstrChanged g.V.VisitorMut.step c.args.visitor.now i r.new.self (ArrayNewFixed r.new.id c.in-ArrayNewFixed.size)) (sym c.in-ArrayNewFixed.is) (r.new.id, refl, r.ensures)

pub returns-in-ArrayGet : goal.returns-in-ArrayGet
returns-in-ArrayGet g c =
    let r = c.visit_type_id_mut-in-ArrayGet in
    subst (λ (i : Instr). InstrChanged g.V.VisitorMut.step c.args.visitor.now i r.new.self (ArrayGet r.new.id)) (sym c.in-ArrayGet.is) (r.new.id, refl, r.ensures)

pub returns-in-ArrayGetS : goal.returns-in-ArrayGetS
returns-in-ArrayGetS g c =
    let r = c.visit_type_id_mut-in-ArrayGetS in
    subst (λ (i : Instr). InstrChanged g.V.VisitorMut.step c.args.visitor.now i r.new.self (ArrayGetS r.new.id)) (sym c.in-ArrayGetS.is) (r.new.id, refl, r.ensures)

pub returns-in-ArrayGetU : goal.returns-in-ArrayGetU
returns-in-ArrayGetU g c =
    let r = c.visit_type_id_mut-in-ArrayGetU in
    subst (λ (i : Instr). InstrChanged g.V.VisitorMut.step c.args.visitor.now i r.new.self (ArrayGetU r.new.id)) (sym c.in-ArrayGetU.is) (r.new.id, refl, r.ensures)

pub returns-in-ArraySet : goal.returns-in-ArraySet
returns-in-ArraySet g c =
    let r = c.visit_type_id_mut-in-ArraySet in
    subst (λ (i : Instr). InstrChanged g.V.VisitorMut.step c.args.visitor.now i r.new.self (ArraySet r.new.id)) (sym c.in-ArraySet.is) (r.new.id, refl, r.ensures)

pub returns-in-ArrayFill : goal.returns-in-ArrayFill
returns-in-ArrayFill g c =
    let r = c.visit_type_id_mut-in-ArrayFill in
    subst (λ (i : Instr). InstrChanged g.V.VisitorMut.step c.args.visitor.now i r.new.self (ArrayFill r.new.id)) (sym c.in-ArrayFill.is) (r.new.id, refl, r.ensures)

pub returns-in-ArrayNewData : goal.returns-in-ArrayNewData
returns-in-ArrayNewData g c =
    let r = c.visit_type_id_mut-in-ArrayNewData in let s = c.visit_data_id_mut in
    subst (λ (i : Instr). InstrChanged g.V.VisitorMut.step c.args.visitor.now i s.new.self (ArrayNewData r.new.id s.new.id)) (sym c.in-ArrayNewData.is) (r.new.id, s.new.id, refl, (r.new.self, r.ensures, s.ensures))

pub returns-in-ArrayInitData : goal.returns-in-ArrayInitData
returns-in-ArrayInitData g c =
    let r = c.visit_type_id_mut-in-ArrayInitData in let s = c.visit_data_id_mut-in-ArrayInitData in
    subst (λ (i : Instr). InstrChanged g.V.VisitorMut.step c.args.visitor.now i s.new.self (ArrayInitData r.new.id s.new.id)) (sym c.in-ArrayInitData.is) (r.new.id, s.new.id, refl, (r.new.self, r.ensures, s.ensures))

pub returns-in-ArrayNewElem : goal.returns-in-ArrayNewElem
returns-in-ArrayNewElem g c =
    let r = c.visit_type_id_mut-in-ArrayNewElem in let s = c.visit_element_id_mut in
    subst (λ (i : Instr). InstrChanged g.V.VisitorMut.step c.args.visitor.now i s.new.self (ArrayNewElem r.new.id s.new.id)) (sym c.in-ArrayNewElem.is) (r.new.id, s.new.id, refl, (r.new.self, r.ensures, s.ensures))

pub returns-in-ArrayInitElem : goal.returns-in-ArrayInitElem
returns-in-ArrayInitElem g c =
    let r = c.visit_type_id_mut-in-ArrayInitElem in let s = c.visit_element_id_mut-in-ArrayInitElem in
    subst (λ (i : Instr). InstrChanged g.V.VisitorMut.step c.args.visitor.now i s.new.self (ArrayInitElem r.new.id s.new.id)) (sym c.in-ArrayInitElem.is) (r.new.id, s.new.id, refl, (r.new.self, r.ensures, s.ensures))

pub returns-in-TableGet : goal.returns-in-TableGet
returns-in-TableGet g c =
    let r = c.visit_table_id_mut-in-TableGet in
    subst (λ (i : Instr). InstrChanged g.V.VisitorMut.step c.args.visitor.now i r.new.self (TableGet r.new.id)) (sym c.in-TableGet.is) (r.new.id, refl, r.ensures)

pub returns-in-TableSet : goal.returns-in-TableSet
returns-in-TableSet g c =
    let r = c.visit_table_id_mut-in-TableSet in
    subst (λ (i : Instr). InstrChanged g.V.VisitorMut.step c.args.visitor.now i r.new.self (TableSet r.new.id)) (sym c.in-TableSet.is) (r.new.id, refl, r.ensures)

pub returns-in-TableGrow : goal.returns-in-TableGrow
returns-in-TableGrow g c =
    let r = c.visit_table_id_mut-in-TableGrow in
    subst (λ (i : Instr). InstrChanged g.V.VisitorMut.step c.args.visitor.now i r.new.self (TableGrow r.new.id)) (sym c.in-TableGrow.is) (r.new.id, refl, r.ensures)

pub returns-in-TableSize : goal.returns-in-TableSize
returns-in-TableSize g c =
    let r = c.visit_table_id_mut-in-TableSize in
    subst (λ (i : Instr). InstrChanged g.V.VisitorMut.step c.args.visitor.now i r.new.self (TableSize r.new.id)) (sym c.in-TableSize.is) (r.new.id, refl, r.ensures)

pub returns-in-TableFill : goal.returns-in-TableFill
returns-in-TableFill g c =
    let r = c.visit_table_id_mut-in-TableFill in
    subst (λ (i : Instr). InstrChanged g.V.VisitorMut.step c.args.visitor.now i r.new.self (TableFill r.new.id)) (sym c.in-TableFill.is) (r.new.id, refl, r.ensures)

pub returns-in-TableInit : goal.returns-in-TableInit
returns-in-TableInit g c =
    let r = c.visit_table_id_mut-in-TableInit in let s = c.visit_element_id_mut-in-TableInit in
    subst (λ (i : Instr). InstrChanged g.V.VisitorMut.step c.args.visitor.now i s.new.self (TableInit r.new.id s.new.id)) (sym c.in-TableInit.is) (r.new.id, s.new.id, refl, (r.new.self, r.ensures, s.ensures))

pub returns-in-ElemDrop : goal.returns-in-ElemDrop
returns-in-ElemDrop g c =
    let r = c.visit_element_id_mut-in-ElemDrop in
    subst (λ (i : Instr). InstrChanged g.V.VisitorMut.step c.args.visitor.now i r.new.self (ElemDrop r.new.id)) (sym c.in-ElemDrop.is) (r.new.id, refl, r.ensures)

pub returns-in-LoadSimd : goal.returns-in-LoadSimd
returns-in-LoadSimd g c =
    let r = c.visit_memory_id_mut-in-LoadSimd in
    subst (λ (i : Instr). InstrChanged g.V.VisitorMut.step c.args.visitor.now i r.new.self (LoadSimd r.new.id c.in-LoadSimd.kind c.in-LoadSimd.arg)) (sym c.in-LoadSimd.is) (r.new.id, refl, r.ensures)

pub returns-in-MemorySize : goal.returns-in-MemorySize
returns-in-MemorySize g c =
    let r = c.visit_memory_id_mut-in-MemorySize in
    subst (λ (i : Instr). InstrChanged g.V.VisitorMut.step c.args.visitor.now i r.new.self (MemorySize r.new.id)) (sym c.in-MemorySize.is) (r.new.id, refl, r.ensures)

pub returns-in-MemoryGrow : goal.returns-in-MemoryGrow
returns-in-MemoryGrow g c =
    let r = c.visit_memory_id_mut-in-MemoryGrow in
    subst (λ (i : Instr). InstrChanged g.V.VisitorMut.step c.args.visitor.now i r.new.self (MemoryGrow r.new.id)) (sym c.in-MemoryGrow.is) (r.new.id, refl, r.ensures)

pub returns-in-MemoryFill : goal.returns-in-MemoryFill
returns-in-MemoryFill g c =
    let r = c.visit_memory_id_mut-in-MemoryFill in
    subst (λ (i : Instr). InstrChanged g.V.VisitorMut.step c.args.visitor.now i r.new.self (MemoryFill r.new.id)) (sym c.in-MemoryFill.is) (r.new.id, refl, r.ensures)

pub returns-in-AtomicRmw : goal.returns-in-AtomicRmw
returns-in-AtomicRmw g c =
    let r = c.visit_memory_id_mut-in-AtomicRmw in
    subst (λ (i : Instr). InstrChanged g.V.VisitorMut.step c.args.visitor.now i r.new.self (AtomicRmw r.new.id c.in-AtomicRmw.op c.in-AtomicRmw.width c.in-AtomicRmw.arg)) (sym c.in-AtomicRmw.is) (r.new.id, refl, r.ensures)

pub returns-in-Cmpxchg : goal.returns-in-Cmpxchg
returns-in-Cmpxchg g c =
    let r = c.visit_memory_id_mut-in-Cmpxchg in
    subst (λ (i : Instr). InstrChanged g.V.VisitorMut.step c.args.visitor.now i r.new.self (Cmpxchg r.new.id c.in-Cmpxchg.width c.in-Cmpxchg.arg)) (sym c.in-Cmpxchg.is) (r.new.id, refl, r.ensures)

pub returns-in-AtomicNotify : goal.returns-in-AtomicNotify
returns-in-AtomicNotify g c =
    let r = c.visit_memory_id_mut-in-AtomicNotify in
    subst (λ (i : Instr). InstrChanged g.V.VisitorMut.step c.args.visitor.now i r.new.self (AtomicNotify r.new.id c.in-AtomicNotify.arg)) (sym c.in-AtomicNotify.is) (r.new.id, refl, r.ensures)

pub returns-in-AtomicWait : goal.returns-in-AtomicWait
returns-in-AtomicWait g c =
    let r = c.visit_memory_id_mut-in-AtomicWait in
    subst (λ (i : Instr). InstrChanged g.V.VisitorMut.step c.args.visitor.now i r.new.self (AtomicWait r.new.id c.in-AtomicWait.arg c.in-AtomicWait.sixty_four)) (sym c.in-AtomicWait.is) (r.new.id, refl, r.ensures)

pub returns-in-MemoryInit : goal.returns-in-MemoryInit
returns-in-MemoryInit g c =
    let r = c.visit_memory_id_mut-in-MemoryInit in let s = c.visit_data_id_mut-in-MemoryInit in
    subst (λ (i : Instr). InstrChanged g.V.VisitorMut.step c.args.visitor.now i s.new.self (MemoryInit r.new.id s.new.id)) (sym c.in-MemoryInit.is) (r.new.id, s.new.id, refl, (r.new.self, r.ensures, s.ensures))

pub returns-in-DataDrop : goal.returns-in-DataDrop
returns-in-DataDrop g c =
    let r = c.visit_data_id_mut-in-DataDrop in
    subst (λ (i : Instr). InstrChanged g.V.VisitorMut.step c.args.visitor.now i r.new.self (DataDrop r.new.id)) (sym c.in-DataDrop.is) (r.new.id, refl, r.ensures)

pub returns-in-BrOnNull : goal.returns-in-BrOnNull
returns-in-BrOnNull g c =
    let r = c.visit_instr_seq_id_mut-in-BrOnNull in
    subst (λ (i : Instr). InstrChanged g.V.VisitorMut.step c.args.visitor.now i r.new.self (BrOnNull r.new.id)) (sym c.in-BrOnNull.is) (r.new.id, refl, r.ensures)

pub returns-in-BrOnNonNull : goal.returns-in-BrOnNonNull
returns-in-BrOnNonNull g c =
    let r = c.visit_instr_seq_id_mut-in-BrOnNonNull in
    subst (λ (i : Instr). InstrChanged g.V.VisitorMut.step c.args.visitor.now i r.new.self (BrOnNonNull r.new.id)) (sym c.in-BrOnNonNull.is) (r.new.id, refl, r.ensures)

pub returns-in-Throw : goal.returns-in-Throw
returns-in-Throw g c =
    let r = c.visit_tag_id_mut in
    subst (λ (i : Instr). InstrChanged g.V.VisitorMut.step c.args.visitor.now i r.new.self (Throw r.new.id)) (sym c.in-Throw.is) (r.new.id, refl, r.ensures)

pub returns-in-ReturnCall : goal.returns-in-ReturnCall
returns-in-ReturnCall g c =
    let r = c.visit_function_id_mut-in-ReturnCall in
    subst (λ (i : Instr). InstrChanged g.V.VisitorMut.step c.args.visitor.now i r.new.self (ReturnCall r.new.id)) (sym c.in-ReturnCall.is) (r.new.id, refl, r.ensures)

pub returns-in-RefFunc : goal.returns-in-RefFunc
returns-in-RefFunc g c =
    let r = c.visit_function_id_mut-in-RefFunc in
    subst (λ (i : Instr). InstrChanged g.V.VisitorMut.step c.args.visitor.now i r.new.self (RefFunc r.new.id)) (sym c.in-RefFunc.is) (r.new.id, refl, r.ensures)

pub returns-in-ReturnCallIndirect : goal.returns-in-ReturnCallIndirect
returns-in-ReturnCallIndirect g c =
    let r = c.visit_type_id_mut-in-ReturnCallIndirect in let s = c.visit_table_id_mut-in-ReturnCallIndirect in
    subst (λ (i : Instr). InstrChanged g.V.VisitorMut.step c.args.visitor.now i s.new.self (ReturnCallIndirect r.new.id s.new.id)) (sym c.in-ReturnCallIndirect.is) (r.new.id, s.new.id, refl, (r.new.self, r.ensures, s.ensures))

pub returns-in-CallRef : goal.returns-in-CallRef
returns-in-CallRef g c =
    let r = c.visit_type_id_mut-in-CallRef in
    subst (λ (i : Instr). InstrChanged g.V.VisitorMut.step c.args.visitor.now i r.new.self (CallRef r.new.id)) (sym c.in-CallRef.is) (r.new.id, refl, r.ensures)

pub returns-in-ReturnCallRef : goal.returns-in-ReturnCallRef
returns-in-ReturnCallRef g c =
    let r = c.visit_type_id_mut-in-ReturnCallRef in
    subst (λ (i : Instr). InstrChanged g.V.VisitorMut.step c.args.visitor.now i r.new.self (ReturnCallRef r.new.id)) (sym c.in-ReturnCallRef.is) (r.new.id, refl, r.ensures)

pub returns-in-RefNull : goal.returns-in-RefNull
returns-in-RefNull g c =
    let r = c.visit_ref_type_mut-in-RefNull in
    subst (λ (i : Instr). InstrChanged g.V.VisitorMut.step c.args.visitor.now i r.new.visitor (RefNull r.new.ty)) (sym c.in-RefNull.is) (r.new.ty, refl, r.ensures)

pub returns-in-RefTest : goal.returns-in-RefTest
returns-in-RefTest g c =
    let r = c.visit_ref_type_mut-in-RefTest in
    subst (λ (i : Instr). InstrChanged g.V.VisitorMut.step c.args.visitor.now i r.new.visitor (RefTest r.new.ty)) (sym c.in-RefTest.is) (r.new.ty, refl, r.ensures)

pub returns-in-RefCast : goal.returns-in-RefCast
returns-in-RefCast g c =
    let r = c.visit_ref_type_mut-in-RefCast in
    subst (λ (i : Instr). InstrChanged g.V.VisitorMut.step c.args.visitor.now i r.new.visitor (RefCast r.new.ty)) (sym c.in-RefCast.is) (r.new.ty, refl, r.ensures)
