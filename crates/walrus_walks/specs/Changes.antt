-- What a walk that changes leaves in place of what it hands to its visitor.
use Rattle.std.specs.Prelude.{◌≡◌, List, [], ◌∷◌, Option, Some, None}
use Rattle.std.specs.declared.alloc.Global.{Global}
use Rattle.std.specs.declared.vec.Vec.{Vec}
use Rattle.walrus_instr.specs.walrus_forms.declared.value.HeapType.{HeapType}
use Rattle.walrus_instr.specs.walrus_forms.declared.value.HeapType.TheVariants.{Abstract, Shared, Concrete, Exact}
use Rattle.walrus_instr.specs.walrus_forms.declared.value.RefType.{RefType}
use Rattle.walrus_instr.specs.walrus_forms.declared.value.ValType.{ValType}
use Rattle.walrus_instr.specs.walrus_forms.declared.value.ValType.TheVariants.{Ref}
use Rattle.walrus_instr.specs.declared.instr.Instr.{Instr}
use Rattle.walrus_instr.specs.declared.instr.Instr.TheVariants.{Try, TryTable, Br, BrIf, BrTable, BrOnNull, BrOnNonNull, BrOnCast, BrOnCastFail, Throw, Call, CallIndirect, CallRef, ReturnCall, ReturnCallIndirect, ReturnCallRef, Select, Const, LocalGet, LocalSet, LocalTee, GlobalGet, GlobalSet, TableGet, TableSet, TableGrow, TableSize, TableFill, TableInit, ElemDrop, TableCopy, Load, Store, LoadSimd, MemorySize, MemoryGrow, MemoryInit, DataDrop, MemoryCopy, MemoryFill, AtomicRmw, Cmpxchg, AtomicNotify, AtomicWait, RefNull, RefFunc, RefTest, RefCast, StructNew, StructNewDefault, StructGet, StructGetS, StructGetU, StructSet, ArrayNew, ArrayNewDefault, ArrayNewFixed, ArrayNewData, ArrayNewElem, ArrayGet, ArrayGetS, ArrayGetU, ArraySet, ArrayFill, ArrayCopy, ArrayInitData, ArrayInitElem}
use Rattle.walrus_instr.specs.declared.instr.LegacyCatch.{LegacyCatch}
use Rattle.walrus_instr.specs.declared.instr.LegacyCatch.TheVariants as Legacy
use Rattle.walrus_instr.specs.declared.instr.TryTableCatch.{TryTableCatch}
use Rattle.walrus_instr.specs.declared.instr.TryTableCatch.TheVariants as Clause
use Rattle.walrus_instr.specs.declared.seq.InstrSeqType.{InstrSeqType}
use Rattle.walrus_instr.specs.declared.seq.InstrSeqType.TheVariants.{Simple, MultiValue}
use Rattle.walrus_walks.specs.Events.{Event, NamesSeq, NamesLocal, NamesMemory, NamesTable, NamesGlobal, NamesFunction, NamesData, NamesType, NamesElement, NamesTag, Holds}

-- Each relation is between the visitor and a part before, and the two after.

-- an id or a constant, which the hook of its kind was handed
abbrev pub Handed : {V A : Type 0} → (V → Event → Event → V → Type 0) → (A → Event) → V → A → V → A → Type 0
Handed step event v a w b = step v (event a) (event b) w

-- items of a list one after the other, each left as another
abbrev pub Threads : {V A : Type 0} → (V → A → V → A → Type 0) → V → List A → V → List A → Type 0
Threads {V} R v (x ∷ xs) w (y ∷ ys) = (u : V) × R v x u y × Threads R u xs w ys
Threads R v [] w [] = v ≡ w
Threads R v _ w _ = ⊥

abbrev pub ThreadsIn : {V A : Type 0} → (V → A → V → A → Type 0) → V → Vec A Global → V → Vec A Global → Type 0
ThreadsIn R v xs w ys = Threads R v xs.items w ys.items

-- a whole with one part
abbrev pub Made : {V A B : Type 0} → (V → A → V → A → Type 0) → (A → B) → V → A → V → B → Type 0
Made {V} {A} R make v a w whole = (b : A) × (whole ≡ make b) × R v a w b

-- a whole with two parts, in their order
abbrev pub MadeOfTwo : {V A B C : Type 0} → (V → A → V → A → Type 0) → (V → B → V → B → Type 0) → (A → B → C) → V → A → B → V → C → Type 0
MadeOfTwo {V} {A} {B} R S make v a b w whole = (c : A) × (d : B) × (whole ≡ make c d) × ((u : V) × R v a u c × S u b w d)

-- a whole with three parts, in their order
abbrev pub MadeOfThree : {V A B C D : Type 0} → (V → A → V → A → Type 0) → (V → B → V → B → Type 0) → (V → C → V → C → Type 0) → (A → B → C → D) → V → A → B → C → V → D → Type 0
MadeOfThree {V} {A} {B} {C} R S T make v a b c w whole = (d : A) × (e : B) × (f : C) × (whole ≡ make d e f) × ((t : V) × (u : V) × R v a t d × S t b u e × T u c w f)

-- the type that a reference type names
abbrev pub HeapChanged : {V : Type 0} → (V → Event → Event → V → Type 0) → V → HeapType → V → HeapType → Type 0
HeapChanged step v (Abstract ty) w h = (h ≡ Abstract ty) × (v ≡ w)
HeapChanged step v (Shared ty) w h = (h ≡ Shared ty) × (v ≡ w)
HeapChanged step v (Concrete id) w h = Made (Handed step NamesType) Concrete v id w h
HeapChanged step v (Exact id) w h = Made (Handed step NamesType) Exact v id w h

abbrev pub RefChanged : {V : Type 0} → (V → Event → Event → V → Type 0) → V → RefType → V → RefType → Type 0
RefChanged step v ty w t = (t.nullable ≡ ty.nullable) × HeapChanged step v ty.heap_type w t.heap_type

-- the type that a value type names
abbrev pub ValChanged : {V : Type 0} → (V → Event → Event → V → Type 0) → V → ValType → V → ValType → Type 0
ValChanged step v (Ref ty) w t = Made (RefChanged step) Ref v ty w t
ValChanged step v ty w t = (t ≡ ty) × (v ≡ w)

-- the same where a type is written
abbrev pub WrittenChanged : {V : Type 0} → (V → Event → Event → V → Type 0) → V → Option ValType → V → Option ValType → Type 0
WrittenChanged step v (Some ty) w t = Made (ValChanged step) Some v ty w t
WrittenChanged step v None w t = (t ≡ None) × (v ≡ w)

-- what a block type names
abbrev pub BlockTypeChanged : {V : Type 0} → (V → Event → Event → V → Type 0) → V → InstrSeqType → V → InstrSeqType → Type 0
BlockTypeChanged step v (Simple ty) w t = Made (WrittenChanged step) Simple v ty w t
BlockTypeChanged step v (MultiValue id) w t = Made (Handed step NamesType) MultiValue v id w t

-- what a part of a legacy `try` names, but for its handler
abbrev pub LegacyChanged : {V : Type 0} → (V → Event → Event → V → Type 0) → V → LegacyCatch → V → LegacyCatch → Type 0
LegacyChanged step v (Legacy.Catch tag handler) w c = Made (Handed step NamesTag) (λ t. Legacy.Catch t handler) v tag w c
LegacyChanged step v part w c = (c ≡ part) × (v ≡ w)

-- what a clause of `try_table` names
abbrev pub ClauseChanged : {V : Type 0} → (V → Event → Event → V → Type 0) → V → TryTableCatch → V → TryTableCatch → Type 0
ClauseChanged step v (Clause.Catch tag label) w c = MadeOfTwo (Handed step NamesTag) (Handed step NamesSeq) Clause.Catch v tag label w c
ClauseChanged step v (Clause.CatchRef tag label) w c = MadeOfTwo (Handed step NamesTag) (Handed step NamesSeq) Clause.CatchRef v tag label w c
ClauseChanged step v (Clause.CatchAll label) w c = Made (Handed step NamesSeq) Clause.CatchAll v label w c
ClauseChanged step v (Clause.CatchAllRef label) w c = Made (Handed step NamesSeq) Clause.CatchAllRef v label w c

-- what an instruction names, field by field, but for the sequences that it holds; all else stays
abbrev pub InstrChanged : {V : Type 0} → (V → Event → Event → V → Type 0) → V → Instr → V → Instr → Type 0
InstrChanged step v (Try seq catches) w j = Made (ThreadsIn (LegacyChanged step)) (Try seq) v catches w j
InstrChanged step v (TryTable seq catches) w j = Made (ThreadsIn (ClauseChanged step)) (TryTable seq) v catches w j
InstrChanged step v (Br block) w j = Made (Handed step NamesSeq) Br v block w j
InstrChanged step v (BrIf block) w j = Made (Handed step NamesSeq) BrIf v block w j
InstrChanged step v (BrTable other blocks) w j = MadeOfTwo (ThreadsIn (Handed step NamesSeq)) (Handed step NamesSeq) (λ ks k. BrTable k ks) v blocks other w j
InstrChanged step v (BrOnNull block) w j = Made (Handed step NamesSeq) BrOnNull v block w j
InstrChanged step v (BrOnNonNull block) w j = Made (Handed step NamesSeq) BrOnNonNull v block w j
InstrChanged step v (BrOnCast block from to) w j = MadeOfThree (Handed step NamesSeq) (RefChanged step) (RefChanged step) BrOnCast v block from to w j
InstrChanged step v (BrOnCastFail block from to) w j = MadeOfThree (Handed step NamesSeq) (RefChanged step) (RefChanged step) BrOnCastFail v block from to w j
InstrChanged step v (Throw tag) w j = Made (Handed step NamesTag) Throw v tag w j
InstrChanged step v (Call func) w j = Made (Handed step NamesFunction) Call v func w j
InstrChanged step v (CallIndirect ty table) w j = MadeOfTwo (Handed step NamesType) (Handed step NamesTable) CallIndirect v ty table w j
InstrChanged step v (CallRef ty) w j = Made (Handed step NamesType) CallRef v ty w j
InstrChanged step v (ReturnCall func) w j = Made (Handed step NamesFunction) ReturnCall v func w j
InstrChanged step v (ReturnCallIndirect ty table) w j = MadeOfTwo (Handed step NamesType) (Handed step NamesTable) ReturnCallIndirect v ty table w j
InstrChanged step v (ReturnCallRef ty) w j = Made (Handed step NamesType) ReturnCallRef v ty w j
InstrChanged step v (Select ty) w j = Made (WrittenChanged step) Select v ty w j
InstrChanged step v (Const value) w j = Made (Handed step Holds) Const v value w j
InstrChanged step v (LocalGet id) w j = Made (Handed step NamesLocal) LocalGet v id w j
InstrChanged step v (LocalSet id) w j = Made (Handed step NamesLocal) LocalSet v id w j
InstrChanged step v (LocalTee id) w j = Made (Handed step NamesLocal) LocalTee v id w j
InstrChanged step v (GlobalGet id) w j = Made (Handed step NamesGlobal) GlobalGet v id w j
InstrChanged step v (GlobalSet id) w j = Made (Handed step NamesGlobal) GlobalSet v id w j
InstrChanged step v (TableGet table) w j = Made (Handed step NamesTable) TableGet v table w j
InstrChanged step v (TableSet table) w j = Made (Handed step NamesTable) TableSet v table w j
InstrChanged step v (TableGrow table) w j = Made (Handed step NamesTable) TableGrow v table w j
InstrChanged step v (TableSize table) w j = Made (Handed step NamesTable) TableSize v table w j
InstrChanged step v (TableFill table) w j = Made (Handed step NamesTable) TableFill v table w j
InstrChanged step v (TableInit table elem) w j = MadeOfTwo (Handed step NamesTable) (Handed step NamesElement) TableInit v table elem w j
InstrChanged step v (ElemDrop elem) w j = Made (Handed step NamesElement) ElemDrop v elem w j
InstrChanged step v (TableCopy src dst) w j = MadeOfTwo (Handed step NamesTable) (Handed step NamesTable) TableCopy v src dst w j
InstrChanged step v (Load memory kind arg) w j = Made (Handed step NamesMemory) (λ m. Load m kind arg) v memory w j
InstrChanged step v (Store memory kind arg) w j = Made (Handed step NamesMemory) (λ m. Store m kind arg) v memory w j
InstrChanged step v (LoadSimd memory kind arg) w j = Made (Handed step NamesMemory) (λ m. LoadSimd m kind arg) v memory w j
InstrChanged step v (MemorySize memory) w j = Made (Handed step NamesMemory) MemorySize v memory w j
InstrChanged step v (MemoryGrow memory) w j = Made (Handed step NamesMemory) MemoryGrow v memory w j
InstrChanged step v (MemoryInit memory segment) w j = MadeOfTwo (Handed step NamesMemory) (Handed step NamesData) MemoryInit v memory segment w j
InstrChanged step v (DataDrop segment) w j = Made (Handed step NamesData) DataDrop v segment w j
InstrChanged step v (MemoryCopy src dst) w j = MadeOfTwo (Handed step NamesMemory) (Handed step NamesMemory) MemoryCopy v src dst w j
InstrChanged step v (MemoryFill memory) w j = Made (Handed step NamesMemory) MemoryFill v memory w j
InstrChanged step v (AtomicRmw memory op width arg) w j = Made (Handed step NamesMemory) (λ m. AtomicRmw m op width arg) v memory w j
InstrChanged step v (Cmpxchg memory width arg) w j = Made (Handed step NamesMemory) (λ m. Cmpxchg m width arg) v memory w j
InstrChanged step v (AtomicNotify memory arg) w j = Made (Handed step NamesMemory) (λ m. AtomicNotify m arg) v memory w j
InstrChanged step v (AtomicWait memory arg sixty_four) w j = Made (Handed step NamesMemory) (λ m. AtomicWait m arg sixty_four) v memory w j
InstrChanged step v (RefNull ty) w j = Made (RefChanged step) RefNull v ty w j
InstrChanged step v (RefFunc func) w j = Made (Handed step NamesFunction) RefFunc v func w j
InstrChanged step v (RefTest ty) w j = Made (RefChanged step) RefTest v ty w j
InstrChanged step v (RefCast ty) w j = Made (RefChanged step) RefCast v ty w j
InstrChanged step v (StructNew ty) w j = Made (Handed step NamesType) StructNew v ty w j
InstrChanged step v (StructNewDefault ty) w j = Made (Handed step NamesType) StructNewDefault v ty w j
InstrChanged step v (StructGet ty field) w j = Made (Handed step NamesType) (λ m. StructGet m field) v ty w j
InstrChanged step v (StructGetS ty field) w j = Made (Handed step NamesType) (λ m. StructGetS m field) v ty w j
InstrChanged step v (StructGetU ty field) w j = Made (Handed step NamesType) (λ m. StructGetU m field) v ty w j
InstrChanged step v (StructSet ty field) w j = Made (Handed step NamesType) (λ m. StructSet m field) v ty w j
InstrChanged step v (ArrayNew ty) w j = Made (Handed step NamesType) ArrayNew v ty w j
InstrChanged step v (ArrayNewDefault ty) w j = Made (Handed step NamesType) ArrayNewDefault v ty w j
InstrChanged step v (ArrayNewFixed ty size) w j = Made (Handed step NamesType) (λ m. ArrayNewFixed m size) v ty w j
InstrChanged step v (ArrayNewData ty segment) w j = MadeOfTwo (Handed step NamesType) (Handed step NamesData) ArrayNewData v ty segment w j
InstrChanged step v (ArrayNewElem ty elem) w j = MadeOfTwo (Handed step NamesType) (Handed step NamesElement) ArrayNewElem v ty elem w j
InstrChanged step v (ArrayGet ty) w j = Made (Handed step NamesType) ArrayGet v ty w j
InstrChanged step v (ArrayGetS ty) w j = Made (Handed step NamesType) ArrayGetS v ty w j
InstrChanged step v (ArrayGetU ty) w j = Made (Handed step NamesType) ArrayGetU v ty w j
InstrChanged step v (ArraySet ty) w j = Made (Handed step NamesType) ArraySet v ty w j
InstrChanged step v (ArrayFill ty) w j = Made (Handed step NamesType) ArrayFill v ty w j
InstrChanged step v (ArrayCopy src dst) w j = MadeOfTwo (Handed step NamesType) (Handed step NamesType) ArrayCopy v src dst w j
InstrChanged step v (ArrayInitData ty segment) w j = MadeOfTwo (Handed step NamesType) (Handed step NamesData) ArrayInitData v ty segment w j
InstrChanged step v (ArrayInitElem ty elem) w j = MadeOfTwo (Handed step NamesType) (Handed step NamesElement) ArrayInitElem v ty elem w j
InstrChanged step v i w j = (j ≡ i) × (v ≡ w)
