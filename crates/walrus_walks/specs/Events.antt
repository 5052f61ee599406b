-- What a walk tells its visitor: one event a hook.
use Rattle.std.specs.Prelude.{ℕ, List, [], ◌∷◌, ◌++◌, Option, Some, None}
use Rattle.walrus_instr.specs.walrus_forms.declared.value.HeapType.{HeapType}
use Rattle.walrus_instr.specs.walrus_forms.declared.value.HeapType.TheVariants.{Abstract, Shared, Concrete, Exact}
use Rattle.walrus_instr.specs.walrus_forms.declared.value.RefType.{RefType}
use Rattle.walrus_instr.specs.walrus_forms.declared.value.ValType.{ValType}
use Rattle.walrus_instr.specs.walrus_forms.declared.value.ValType.TheVariants.{Ref}
use Rattle.walrus_instr.specs.declared.instr.Value.{Value as Constant}
use Rattle.walrus_instr.specs.declared.instr.Instr.{Instr}
use Rattle.walrus_instr.specs.declared.instr.Instr.TheVariants.{Try, TryTable, Br, BrIf, BrTable, BrOnNull, BrOnNonNull, BrOnCast, BrOnCastFail, Throw, Call, CallIndirect, CallRef, ReturnCall, ReturnCallIndirect, ReturnCallRef, Select, Const, LocalGet, LocalSet, LocalTee, GlobalGet, GlobalSet, TableGet, TableSet, TableGrow, TableSize, TableFill, TableInit, ElemDrop, TableCopy, Load, Store, LoadSimd, MemorySize, MemoryGrow, MemoryInit, DataDrop, MemoryCopy, MemoryFill, AtomicRmw, Cmpxchg, AtomicNotify, AtomicWait, RefNull, RefFunc, RefTest, RefCast, StructNew, StructNewDefault, StructGet, StructGetS, StructGetU, StructSet, ArrayNew, ArrayNewDefault, ArrayNewFixed, ArrayNewData, ArrayNewElem, ArrayGet, ArrayGetS, ArrayGetU, ArraySet, ArrayFill, ArrayCopy, ArrayInitData, ArrayInitElem}
use Rattle.walrus_instr.specs.declared.instr.LegacyCatch.{LegacyCatch}
use Rattle.walrus_instr.specs.declared.instr.LegacyCatch.TheVariants as Legacy
use Rattle.walrus_instr.specs.declared.instr.TryTableCatch.{TryTableCatch}
use Rattle.walrus_instr.specs.declared.instr.TryTableCatch.TheVariants as Clause
use Rattle.walrus_instr.specs.declared.seq.InstrLocId.{InstrLocId}
use Rattle.walrus_instr.specs.declared.seq.InstrSeq.{InstrSeq}
use Rattle.walrus_instr.specs.declared.seq.InstrSeqType.{InstrSeqType}
use Rattle.walrus_instr.specs.declared.seq.InstrSeqType.TheVariants.{Simple, MultiValue}

-- a sequence begins or ends, an instruction is met, or something that it names
pub data Event : Type 0 where
  StartOf : (seq : InstrSeq) → Event
  EndOf : (seq : InstrSeq) → Event
  Visits : (instr : Instr) (place : InstrLocId) → Event
  NamesSeq : (id : ℕ) → Event
  NamesLocal : (id : ℕ) → Event
  NamesMemory : (id : ℕ) → Event
  NamesTable : (id : ℕ) → Event
  NamesGlobal : (id : ℕ) → Event
  NamesFunction : (id : ℕ) → Event
  NamesData : (id : ℕ) → Event
  NamesType : (id : ℕ) → Event
  NamesElement : (id : ℕ) → Event
  NamesTag : (id : ℕ) → Event
  Holds : (value : Constant) → Event

-- the type that a reference type names
abbrev pub ref_names : RefType → List Event
ref_names ty = of_heap ty.heap_type
  where
    of_heap : HeapType → List Event
    of_heap (Abstract _) = []
    of_heap (Shared _) = []
    of_heap (Concrete id) = NamesType id ∷ []
    of_heap (Exact id) = NamesType id ∷ []

-- the type that a value type names
abbrev pub val_names : ValType → List Event
val_names (Ref ty) = ref_names ty
val_names _ = []

-- the same where a type is written
abbrev pub written_names : Option ValType → List Event
written_names (Some ty) = val_names ty
written_names None = []

-- what a block type names
abbrev pub block_names : InstrSeqType → List Event
block_names (Simple ty) = written_names ty
block_names (MultiValue id) = NamesType id ∷ []

-- what a part of a legacy `try` names, but for its handler
abbrev pub legacy_names : LegacyCatch → List Event
legacy_names (Legacy.Catch tag _) = NamesTag tag ∷ []
legacy_names (Legacy.CatchAll _) = []
legacy_names (Legacy.Delegate _) = []

-- what a clause of `try_table` names
abbrev pub clause_names : TryTableCatch → List Event
clause_names (Clause.Catch tag label) = NamesTag tag ∷ NamesSeq label ∷ []
clause_names (Clause.CatchRef tag label) = NamesTag tag ∷ NamesSeq label ∷ []
clause_names (Clause.CatchAll label) = NamesSeq label ∷ []
clause_names (Clause.CatchAllRef label) = NamesSeq label ∷ []

-- the events of each, in their order
abbrev pub events_of : {A : Type 0} → (A → List Event) → List A → List Event
events_of f [] = []
events_of f (x ∷ xs) = f x ++ events_of f xs

-- what an instruction names, field by field, but for the sequences that it holds
abbrev pub names : Instr → List Event
names (Try _ catches) = events_of legacy_names catches.items
names (TryTable _ catches) = events_of clause_names catches.items
names (Br block) = NamesSeq block ∷ []
names (BrIf block) = NamesSeq block ∷ []
names (BrTable other blocks) = events_of (λ id. NamesSeq id ∷ []) blocks.items ++ NamesSeq other ∷ []
names (BrOnNull block) = NamesSeq block ∷ []
names (BrOnNonNull block) = NamesSeq block ∷ []
names (BrOnCast block from to) = NamesSeq block ∷ (ref_names from ++ ref_names to)
names (BrOnCastFail block from to) = NamesSeq block ∷ (ref_names from ++ ref_names to)
names (Throw tag) = NamesTag tag ∷ []
names (Call func) = NamesFunction func ∷ []
names (CallIndirect ty table) = NamesType ty ∷ NamesTable table ∷ []
names (CallRef ty) = NamesType ty ∷ []
names (ReturnCall func) = NamesFunction func ∷ []
names (ReturnCallIndirect ty table) = NamesType ty ∷ NamesTable table ∷ []
names (ReturnCallRef ty) = NamesType ty ∷ []
names (Select ty) = written_names ty
names (Const value) = Holds value ∷ []
names (LocalGet id) = NamesLocal id ∷ []
names (LocalSet id) = NamesLocal id ∷ []
names (LocalTee id) = NamesLocal id ∷ []
names (GlobalGet id) = NamesGlobal id ∷ []
names (GlobalSet id) = NamesGlobal id ∷ []
names (TableGet table) = NamesTable table ∷ []
names (TableSet table) = NamesTable table ∷ []
names (TableGrow table) = NamesTable table ∷ []
names (TableSize table) = NamesTable table ∷ []
names (TableFill table) = NamesTable table ∷ []
names (TableInit table elem) = NamesTable table ∷ NamesElement elem ∷ []
names (ElemDrop elem) = NamesElement elem ∷ []
names (TableCopy src dst) = NamesTable src ∷ NamesTable dst ∷ []
names (Load memory _ _) = NamesMemory memory ∷ []
names (Store memory _ _) = NamesMemory memory ∷ []
names (LoadSimd memory _ _) = NamesMemory memory ∷ []
names (MemorySize memory) = NamesMemory memory ∷ []
names (MemoryGrow memory) = NamesMemory memory ∷ []
names (MemoryInit memory segment) = NamesMemory memory ∷ NamesData segment ∷ []
names (DataDrop segment) = NamesData segment ∷ []
names (MemoryCopy src dst) = NamesMemory src ∷ NamesMemory dst ∷ []
names (MemoryFill memory) = NamesMemory memory ∷ []
names (AtomicRmw memory _ _ _) = NamesMemory memory ∷ []
names (Cmpxchg memory _ _) = NamesMemory memory ∷ []
names (AtomicNotify memory _) = NamesMemory memory ∷ []
names (AtomicWait memory _ _) = NamesMemory memory ∷ []
names (RefNull ty) = ref_names ty
names (RefFunc func) = NamesFunction func ∷ []
names (RefTest ty) = ref_names ty
names (RefCast ty) = ref_names ty
names (StructNew ty) = NamesType ty ∷ []
names (StructNewDefault ty) = NamesType ty ∷ []
names (StructGet ty _) = NamesType ty ∷ []
names (StructGetS ty _) = NamesType ty ∷ []
names (StructGetU ty _) = NamesType ty ∷ []
names (StructSet ty _) = NamesType ty ∷ []
names (ArrayNew ty) = NamesType ty ∷ []
names (ArrayNewDefault ty) = NamesType ty ∷ []
names (ArrayNewFixed ty _) = NamesType ty ∷ []
names (ArrayNewData ty segment) = NamesType ty ∷ NamesData segment ∷ []
names (ArrayNewElem ty elem) = NamesType ty ∷ NamesElement elem ∷ []
names (ArrayGet ty) = NamesType ty ∷ []
names (ArrayGetS ty) = NamesType ty ∷ []
names (ArrayGetU ty) = NamesType ty ∷ []
names (ArraySet ty) = NamesType ty ∷ []
names (ArrayFill ty) = NamesType ty ∷ []
names (ArrayCopy src dst) = NamesType src ∷ NamesType dst ∷ []
names (ArrayInitData ty segment) = NamesType ty ∷ NamesData segment ∷ []
names (ArrayInitElem ty elem) = NamesType ty ∷ NamesElement elem ∷ []
names _ = []
