-- What stays when a sequence is changed: the sequences that it holds.
use Rattle.std.proofs.Common.{ℕ, zero, suc, ◌<◌, ◌≡◌, List, [], ◌∷◌, ◌++◌, length, get_or, refl, ap, arith, ◌∙◌}
use Rattle.std.specs.Prelude.{slice_set}
use Rattle.std.specs.Vec.{with_items}
use Rattle.std.specs.declared.alloc.Global.{Global}
use Rattle.std.specs.declared.vec.Vec.{Vec}
use Rattle.std.proofs.lemmas.List.{with_items_is}
use Rattle.walrus_instr.specs.declared.instr.Instr.{Instr}
use Rattle.walrus_instr.specs.declared.instr.Instr.TheVariants.{Try, TryTable, Br, BrIf, BrTable, BrOnNull, BrOnNonNull, BrOnCast, BrOnCastFail, Throw, Call, CallIndirect, CallRef, ReturnCall, ReturnCallIndirect, ReturnCallRef, Select, Const, LocalGet, LocalSet, LocalTee, GlobalGet, GlobalSet, TableGet, TableSet, TableGrow, TableSize, TableFill, TableInit, ElemDrop, TableCopy, Load, Store, LoadSimd, MemorySize, MemoryGrow, MemoryInit, DataDrop, MemoryCopy, MemoryFill, AtomicRmw, Cmpxchg, AtomicNotify, AtomicWait, RefNull, RefFunc, RefTest, RefCast, StructNew, StructNewDefault, StructGet, StructGetS, StructGetU, StructSet, ArrayNew, ArrayNewDefault, ArrayNewFixed, ArrayNewData, ArrayNewElem, ArrayGet, ArrayGetS, ArrayGetU, ArraySet, ArrayFill, ArrayCopy, ArrayInitData, ArrayInitElem}
use Rattle.walrus_instr.specs.declared.instr.LegacyCatch.{LegacyCatch}
use Rattle.walrus_instr.specs.declared.instr.LegacyCatch.TheVariants.{Catch, CatchAll, Delegate}
use Rattle.walrus_instr.specs.declared.seq.InstrLocId.{InstrLocId}
use Rattle.walrus_walks.specs.Tree.{children, handler, handlers}
use Rattle.walrus_walks.specs.Events.{Event}
use Rattle.walrus_walks.specs.Changes.{Threads, LegacyChanged, InstrChanged}
use Rattle.walrus_walks.specs.Order.{last_first}

module _ {V : Type 0} (step : V → Event → Event → V → Type 0) where
  handler_keeps : (v w : V) (c d : LegacyCatch) → LegacyChanged step v c w d → handler d ≡ handler c
  handler_keeps v w (Catch tag seq) d h = ap handler h.1
  handler_keeps v w (CatchAll seq) d h = ap handler h.0
  handler_keeps v w (Delegate depth) d h = ap handler h.0

  handlers_keep : (v w : V) (cs ds : List LegacyCatch) → Threads (LegacyChanged step) v cs w ds → handlers ds ≡ handlers cs
  handlers_keep v w [] [] h = refl
  handlers_keep v w [] (d ∷ ds) h = absurd h
  handlers_keep v w (c ∷ cs) [] h = absurd h
  handlers_keep v w (c ∷ cs) (d ∷ ds) h =
      ap (λ (ks : List ℕ). ks ++ handlers ds) (handler_keeps v h.0 c d h.1) ∙ ap (λ (ks : List ℕ). handler c ++ ks) (handlers_keep h.0 w cs ds h.2)

  -- an instruction holds what it held
  pub instr_keeps : (v w : V) (i j : Instr) → InstrChanged step v i w j → children j ≡ children i
  instr_keeps v w (Try seq catches) j h = ap children h.1 ∙ ap (λ (ks : List ℕ). seq ∷ ks) (handlers_keep v w catches.items h.0.items h.2)
  instr_keeps v w (TryTable seq catches) j h = ap children h.1
  instr_keeps v w (Br block) j h = ap children h.1
  instr_keeps v w (BrIf block) j h = ap children h.1
  instr_keeps v w (BrTable other blocks) j h = ap children h.2
  instr_keeps v w (BrOnNull block) j h = ap children h.1
  instr_keeps v w (BrOnNonNull block) j h = ap children h.1
  instr_keeps v w (BrOnCast block from to) j h = ap children h.3
  instr_keeps v w (BrOnCastFail block from to) j h = ap children h.3
  instr_keeps v w (Throw tag) j h = ap children h.1
  instr_keeps v w (Call func) j h = ap children h.1
  instr_keeps v w (CallIndirect ty table) j h = ap children h.2
  instr_keeps v w (CallRef ty) j h = ap children h.1
  instr_keeps v w (ReturnCall func) j h = ap children h.1
  instr_keeps v w (ReturnCallIndirect ty table) j h = ap children h.2
  instr_keeps v w (ReturnCallRef ty) j h = ap children h.1
  instr_keeps v w (Select ty) j h = ap children h.1
  instr_keeps v w (Const value) j h = ap children h.1
  instr_keeps v w (LocalGet id) j h = ap children h.1
  instr_keeps v w (LocalSet id) j h = ap children h.1
  instr_keeps v w (LocalTee id) j h = ap children h.1
  instr_keeps v w (GlobalGet id) j h = ap children h.1
  instr_keeps v w (GlobalSet id) j h = ap children h.1
  instr_keeps v w (TableGet table) j h = ap children h.1
  instr_keeps v w (TableSet table) j h = ap children h.1
  instr_keeps v w (TableGrow table) j h = ap children h.1
  instr_keeps v w (TableSize table) j h = ap children h.1
  instr_keeps v w (TableFill table) j h = ap children h.1
  instr_keeps v w (TableInit table elem) j h = ap children h.2
  instr_keeps v w (ElemDrop elem) j h = ap children h.1
  instr_keeps v w (TableCopy src dst) j h = ap children h.2
  instr_keeps v w (Load memory kind arg) j h = ap children h.1
  instr_keeps v w (Store memory kind arg) j h = ap children h.1
  instr_keeps v w (LoadSimd memory kind arg) j h = ap children h.1
  instr_keeps v w (MemorySize memory) j h = ap children h.1
  instr_keeps v w (MemoryGrow memory) j h = ap children h.1
  instr_keeps v w (MemoryInit memory segment) j h = ap children h.2
  instr_keeps v w (DataDrop segment) j h = ap children h.1
  instr_keeps v w (MemoryCopy src dst) j h = ap children h.2
  instr_keeps v w (MemoryFill memory) j h = ap children h.1
  instr_keeps v w (AtomicRmw memory op width arg) j h = ap children h.1
  instr_keeps v w (Cmpxchg memory width arg) j h = ap children h.1
  instr_keeps v w (AtomicNotify memory arg) j h = ap children h.1
  instr_keeps v w (AtomicWait memory arg sixty_four) j h = ap children h.1
  instr_keeps v w (RefNull ty) j h = ap children h.1
  instr_keeps v w (RefFunc func) j h = ap children h.1
  instr_keeps v w (RefTest ty) j h = ap children h.1
  instr_keeps v w (RefCast ty) j h = ap children h.1
  instr_keeps v w (StructNew ty) j h = ap children h.1
  instr_keeps v w (StructNewDefault ty) j h = ap children h.1
  instr_keeps v w (StructGet ty field) j h = ap children h.1
  instr_keeps v w (StructGetS ty field) j h = ap children h.1
  instr_keeps v w (StructGetU ty field) j h = ap children h.1
  instr_keeps v w (StructSet ty field) j h = ap children h.1
  instr_keeps v w (ArrayNew ty) j h = ap children h.1
  instr_keeps v w (ArrayNewDefault ty) j h = ap children h.1
  instr_keeps v w (ArrayNewFixed ty size) j h = ap children h.1
  instr_keeps v w (ArrayNewData ty segment) j h = ap children h.2
  instr_keeps v w (ArrayNewElem ty elem) j h = ap children h.2
  instr_keeps v w (ArrayGet ty) j h = ap children h.1
  instr_keeps v w (ArrayGetS ty) j h = ap children h.1
  instr_keeps v w (ArrayGetU ty) j h = ap children h.1
  instr_keeps v w (ArraySet ty) j h = ap children h.1
  instr_keeps v w (ArrayFill ty) j h = ap children h.1
  instr_keeps v w (ArrayCopy src dst) j h = ap children h.2
  instr_keeps v w (ArrayInitData ty segment) j h = ap children h.2
  instr_keeps v w (ArrayInitElem ty elem) j h = ap children h.2
  instr_keeps v w i j h = ap children h.0

-- a write to an item that keeps what it holds
pub items_keep : (is : List (Instr × InstrLocId)) (k : ℕ) (x y : Instr × InstrLocId) → k < length is → children y.0 ≡ children (get_or is k x).0 → last_first (slice_set is k y) ≡ last_first is
items_keep [] k x y l e = absurd (omega arith)
items_keep (i ∷ is) zero x y l e = ap (λ (ks : List ℕ). last_first is ++ ks) e
items_keep (i ∷ is) (suc k) x y l e = ap (λ (ks : List ℕ). ks ++ children i.0) (items_keep is k x y (omega arith) e)

-- instructions that were lent by a sequence, and written back to it
pub written_keep : (before : Vec (Instr × InstrLocId) Global) (lent is : List (Instr × InstrLocId)) → lent ≡ before.items → length is ≡ length lent → last_first is ≡ last_first lent → last_first (with_items before is).items ≡ last_first before.items
written_keep before lent is e l k = ap last_first (with_items_is before is (omega (arith, l, ap length e, before.ok.0))) ∙ k ∙ ap last_first e
