-- Lemmas: the operator of an instruction under a map is that under none, renamed.
use Rattle.std.specs.Int.{w128, to_le_bytes}
use Rattle.std.proofs.Common.{ap, sym, ◌∙◌, subst, inl, inr}
use Rattle.wasm_ref_types.specs.declared.heap.HeapType.{HeapType as WrittenHeap}
use Rattle.wasm_ref_types.specs.declared.value.ValType.{ValType as WrittenValue}
use Rattle.wasm_ref_types.specs.declared.value.ValType.TheVariants.{Ref as WRef, I32 as WI32, I64 as WI64, F32 as WF32, F64 as WF64, V128 as WV128}
use Rattle.wasm_ref_types.specs.Reference.{reference}
use Rattle.wasm_operators.specs.Items.{Types, Functions, Tables, Memories, Tags, Globals, ElementSegments, DataSegments, Locals, Item, Names, Number, S32, S64, Bits, Byte, Bytes, Heap, Access, ManyValues, Space}
use Rattle.wasm_operators.specs.declared.op_code.OpCode.{OpCode}
use Rattle.wasm_operators.specs.Operators.{Seen}
use Rattle.walrus_forms.specs.declared.value.HeapType.{HeapType}
use Rattle.walrus_forms.specs.declared.value.HeapType.TheVariants.{Abstract, Shared, Concrete, Exact}
use Rattle.walrus_forms.specs.declared.value.ValType.{ValType}
use Rattle.walrus_forms.specs.declared.value.ValType.TheVariants.{I32, I64, F32, F64, V128, Ref}
use Rattle.walrus_instr.specs.declared.instr.Instr.{Instr}
use Rattle.walrus_instr.specs.declared.instr.Instr.TheVariants as instrs
use Rattle.walrus_instr.specs.declared.instr.Value.TheVariants as constants
use Rattle.walrus_instr.specs.declared.memory.MemArg.{MemArg}
use Rattle.walrus_codes.specs.Runs.{byte, object, bulk, vector, atomic}
use Rattle.walrus_codes.specs.Unary.{unary_code, unary_lane}
use Rattle.walrus_codes.specs.Binary.{binary_code, binary_lane}
use Rattle.walrus_codes.specs.Ternary.{ternary_code}
use Rattle.walrus_codes.specs.Access.{load_code, store_code, simd_code, simd_lane, rmw_code, cmpxchg_code}
use Rattle.walrus_pairing.specs.Looks.{Or, ◌>>=◌, Look, found}
use Rattle.walrus_pairing.specs.Types.{written_heap, written_value, written_abstract}
use Rattle.walrus_pairing.specs.Write.{seen_of, op, either, of_code, bare_code, numeric, variable, memory_op, object_op, plain_at, select, operator_at, lane_items, access_of, test_code, cast_code, one, two, counted, access, heap}
use Rattle.walrus_pairing.specs.Back.{some_is, ok_is}
use Rattle.walrus_pairing.specs.Together.{either_is}
use Rattle.std.specs.Prelude.{ℕ, ◌≡◌, List, [], ◌∷◌, map, Option, Some, None, Ok, Err, if◌then◌else◌, refl, true, false}
use Rattle.wasm_operators.specs.Names.{Renaming, renamed_heap, renamed_value, renamed_item}
use Rattle.walrus_pairing.specs.Sends.{Sends, IsSent, OperatorsAreSent}
use Rattle.walrus_pairing.specs.Laws.{all}
use Rattle.wasm_ref_types.specs.declared.heap.HeapType.TheVariants.{Abstract as WAbstract, Concrete as WConcrete, Exact as WExact}
use Rattle.wasm_ref_types.specs.declared.index.UnpackedIndex.TheVariants.{Module}

module _ (r : Renaming) (look : Look) (sends : Sends r look) where
  -- a name that was found, and what was made of it
  pub found_as : {A : Type 0} (space : Space) (id : ℕ) (make : ℕ → Or A) (a : A) → (found look space id >>= make) ≡ Ok a → make (r space id) ≡ Ok a
  found_as space id make a e = at (look space id) refl
    where
      at : (o : Option ℕ) → look space id ≡ o → make (r space id) ≡ Ok a
      at (Some n) h = subst (λ (m : ℕ). make m ≡ Ok a) (sends space id n h) (rw h at e)
      at None h = absurd (let w = (rw h at e) in cc)

  -- the operator under no map is this one, which is renamed to that
  sent : (i : Instr) (code : OpCode) (items renamed : List Item) (s : Seen) → operator_at all i ≡ op code items → map (renamed_item r) items ≡ renamed
      → op code renamed ≡ Ok (Some s) → IsSent r i s
  sent i code items renamed s is to e = (seen_of code items, is, sym (some_is (seen_of code renamed) s e) ∙ ap (seen_of code) (sym to))

  one_sent : (code : OpCode) (space : Space) (id : ℕ) (i : Instr) (s : Seen) → operator_at all i ≡ op code (Names space id ∷ []) → one look code space id ≡ Ok (Some s) → IsSent r i s
  one_sent code space id i s is e =
      sent i code (Names space id ∷ []) (Names space (r space id) ∷ []) s is refl (found_as space id (λ n. op code (Names space n ∷ [])) (Some s) e)

  counted_sent : (code : OpCode) (id count : ℕ) (i : Instr) (s : Seen) → operator_at all i ≡ op code (Names Types id ∷ Number count ∷ []) → counted look code Types id count ≡ Ok (Some s)
      → IsSent r i s
  counted_sent code id count i s is e =
      sent i code (Names Types id ∷ Number count ∷ []) (Names Types (r Types id) ∷ Number count ∷ []) s is refl (found_as Types id (λ n. op code (Names Types n ∷ Number count ∷ [])) (Some s) e)

  two_sent : (code : OpCode) (first : Space) (id : ℕ) (second : Space) (other : ℕ) (i : Instr) (s : Seen) → operator_at all i ≡ op code (Names first id ∷ Names second other ∷ [])
      → two look code first id second other ≡ Ok (Some s) → IsSent r i s
  two_sent code first id second other i s is e =
      let got = found_as first id (λ m. found look second other >>= λ n. op code (Names first m ∷ Names second n ∷ [])) (Some s) e in
      sent i code (Names first id ∷ Names second other ∷ []) (Names first (r first id) ∷ Names second (r second other) ∷ []) s is refl
      (found_as second other (λ n. op code (Names first (r first id) ∷ Names second n ∷ [])) (Some s) got)

  lanes_same : (lane : Option ℕ) → map (renamed_item r) (lane_items lane) ≡ lane_items lane
  lanes_same None = refl
  lanes_same (Some lane) = refl

  given_sent : (code : OpCode) (items : List Item) (i : Instr) (s : Seen) → operator_at all i ≡ op code items → map (renamed_item r) items ≡ items → op code items ≡ Ok (Some s) → IsSent r i s
  given_sent code items i s is same e = sent i code items items s is same e

  access_sent : (code : OpCode) (memory : ℕ) (arg : MemArg) (lane : Option ℕ) (i : Instr) (s : Seen) → operator_at all i ≡ op code (Access (access_of memory arg) ∷ lane_items lane)
      → access look code memory arg lane ≡ Ok (Some s) → IsSent r i s
  access_sent code memory arg lane i s is e =
      sent i code (Access (access_of memory arg) ∷ lane_items lane) (Access (access_of (r Memories memory) arg) ∷ lane_items lane) s is
      (ap (λ (l : List Item). Access (access_of (r Memories memory) arg) ∷ l) (lanes_same lane))
      (found_as Memories memory (λ n. op code (Access (access_of n arg) ∷ lane_items lane)) (Some s) e)

  -- types
  abbrev HeapSent : HeapType → WrittenHeap → Type 0
  HeapSent ty w = (v : WrittenHeap) × (written_heap (all Types) ty ≡ Ok v) × (renamed_heap r v ≡ w)

  pub heap_as : (ty : HeapType) (w : WrittenHeap) → written_heap (look Types) ty ≡ Ok w → HeapSent ty w
  heap_as (Abstract kind) w e = (WAbstract false (written_abstract kind), refl, ok_is _ w e)
  heap_as (Shared kind) w e = (WAbstract true (written_abstract kind), refl, ok_is _ w e)
  heap_as (Concrete id) w e = (WConcrete (Module id), refl, ok_is (WConcrete (Module (r Types id))) w (found_as Types id (λ n. Ok (WConcrete (Module n))) w e))
  heap_as (Exact id) w e = (WExact (Module id), refl, ok_is (WExact (Module (r Types id))) w (found_as Types id (λ n. Ok (WExact (Module n))) w e))

  heap_sent : (code : OpCode) (ty : HeapType) (i : Instr) (s : Seen) → ((v : WrittenHeap) → written_heap (all Types) ty ≡ Ok v → operator_at all i ≡ op code (Heap v ∷ []))
      → heap look code ty ≡ Ok (Some s) → IsSent r i s
  heap_sent code ty i s is e = at (written_heap (look Types) ty) refl
    where
      at : (o : Or WrittenHeap) → written_heap (look Types) ty ≡ o → IsSent r i s
      at (Ok w) h =
          let v = heap_as ty w h in
          sent i code (Heap v.0 ∷ []) (Heap w ∷ []) s (is v.0 v.1) (ap (λ (x : WrittenHeap). Heap x ∷ []) v.2) (rw h at e)
      at (Err x) h = absurd (let v = (rw h at e) in cc)

  pub value_as : (ty : ValType) (w : WrittenValue) → written_value (look Types) ty ≡ Ok w → (v : WrittenValue) × (written_value (all Types) ty ≡ Ok v) × (renamed_value r v ≡ w)
  value_as I32 w e = (WI32, refl, ok_is _ w e)
  value_as I64 w e = (WI64, refl, ok_is _ w e)
  value_as F32 w e = (WF32, refl, ok_is _ w e)
  value_as F64 w e = (WF64, refl, ok_is _ w e)
  value_as V128 w e = (WV128, refl, ok_is _ w e)
  value_as (Ref ty) w e = at (written_heap (look Types) ty.heap_type) refl
    where
      at : (o : Or WrittenHeap) → written_heap (look Types) ty.heap_type ≡ o → (v : WrittenValue) × (written_value (all Types) (Ref ty) ≡ Ok v) × (renamed_value r v ≡ w)
      at (Ok h) g =
          let v = heap_as ty.heap_type h g in
          (WRef (reference ty.nullable v.0), (rw v.1 refl), ap (λ (x : WrittenHeap). WRef (reference ty.nullable x)) v.2 ∙ ok_is (WRef (reference ty.nullable h)) w (rw g at e))
      at (Err x) g = absurd (let y = (rw g at e) in cc)

  select_sent : (i : Instr) (s : Seen) → select look i ≡ Ok (Some s) → IsSent r i s
  unfolding operator_at
  select_sent (instrs.Select (Some ty)) s e = at (written_value (look Types) ty) refl
    where
      at : (o : Or WrittenValue) → written_value (look Types) ty ≡ o → IsSent r (instrs.Select (Some ty)) s
      at (Ok w) h =
          let v = value_as ty w h in
          sent (instrs.Select (Some ty)) (byte 0x1c) (ManyValues (v.0 ∷ []) ∷ []) (ManyValues (w ∷ []) ∷ []) s (rw v.1 refl) (ap (λ (x : WrittenValue). ManyValues (x ∷ []) ∷ []) v.2) (rw h at e)
      at (Err x) h = absurd (let y = (rw h at e) in cc)
  select_sent _ s e = absurd cc

  variable_sent : (i : Instr) (s : Seen) → variable look i ≡ Ok (Some s) → IsSent r i s
  unfolding operator_at
  variable_sent (instrs.Throw tag) s e = one_sent (byte 0x08) Tags tag (instrs.Throw tag) s refl e
  variable_sent (instrs.Call func) s e = one_sent (byte 0x10) Functions func (instrs.Call func) s refl e
  variable_sent (instrs.CallIndirect ty table) s e = two_sent (byte 0x11) Types ty Tables table (instrs.CallIndirect ty table) s refl e
  variable_sent (instrs.ReturnCall func) s e = one_sent (byte 0x12) Functions func (instrs.ReturnCall func) s refl e
  variable_sent (instrs.ReturnCallIndirect ty table) s e = two_sent (byte 0x13) Types ty Tables table (instrs.ReturnCallIndirect ty table) s refl e
  variable_sent (instrs.CallRef ty) s e = one_sent (byte 0x14) Types ty (instrs.CallRef ty) s refl e
  variable_sent (instrs.ReturnCallRef ty) s e = one_sent (byte 0x15) Types ty (instrs.ReturnCallRef ty) s refl e
  variable_sent (instrs.LocalGet local) s e = one_sent (byte 0x20) Locals local (instrs.LocalGet local) s refl e
  variable_sent (instrs.LocalSet local) s e = one_sent (byte 0x21) Locals local (instrs.LocalSet local) s refl e
  variable_sent (instrs.LocalTee local) s e = one_sent (byte 0x22) Locals local (instrs.LocalTee local) s refl e
  variable_sent (instrs.GlobalGet global) s e = one_sent (byte 0x23) Globals global (instrs.GlobalGet global) s refl e
  variable_sent (instrs.GlobalSet global) s e = one_sent (byte 0x24) Globals global (instrs.GlobalSet global) s refl e
  variable_sent (instrs.TableGet table) s e = one_sent (byte 0x25) Tables table (instrs.TableGet table) s refl e
  variable_sent (instrs.TableSet table) s e = one_sent (byte 0x26) Tables table (instrs.TableSet table) s refl e
  variable_sent (instrs.RefFunc func) s e = one_sent (byte 0xd2) Functions func (instrs.RefFunc func) s refl e
  variable_sent (instrs.TableInit table elem) s e = two_sent (bulk 12) ElementSegments elem Tables table (instrs.TableInit table elem) s refl e
  variable_sent (instrs.ElemDrop elem) s e = one_sent (bulk 13) ElementSegments elem (instrs.ElemDrop elem) s refl e
  variable_sent (instrs.TableCopy src dst) s e = two_sent (bulk 14) Tables dst Tables src (instrs.TableCopy src dst) s refl e
  variable_sent (instrs.TableGrow table) s e = one_sent (bulk 15) Tables table (instrs.TableGrow table) s refl e
  variable_sent (instrs.TableSize table) s e = one_sent (bulk 16) Tables table (instrs.TableSize table) s refl e
  variable_sent (instrs.TableFill table) s e = one_sent (bulk 17) Tables table (instrs.TableFill table) s refl e
  variable_sent _ s e = absurd cc

  object_sent : (i : Instr) (s : Seen) → object_op look i ≡ Ok (Some s) → IsSent r i s
  unfolding operator_at
  object_sent (instrs.StructNew ty) s e = one_sent (object 0) Types ty (instrs.StructNew ty) s refl e
  object_sent (instrs.StructNewDefault ty) s e = one_sent (object 1) Types ty (instrs.StructNewDefault ty) s refl e
  object_sent (instrs.StructGet ty field) s e = counted_sent (object 2) ty field (instrs.StructGet ty field) s refl e
  object_sent (instrs.StructGetS ty field) s e = counted_sent (object 3) ty field (instrs.StructGetS ty field) s refl e
  object_sent (instrs.StructGetU ty field) s e = counted_sent (object 4) ty field (instrs.StructGetU ty field) s refl e
  object_sent (instrs.StructSet ty field) s e = counted_sent (object 5) ty field (instrs.StructSet ty field) s refl e
  object_sent (instrs.ArrayNew ty) s e = one_sent (object 6) Types ty (instrs.ArrayNew ty) s refl e
  object_sent (instrs.ArrayNewDefault ty) s e = one_sent (object 7) Types ty (instrs.ArrayNewDefault ty) s refl e
  object_sent (instrs.ArrayNewFixed ty size) s e = counted_sent (object 8) ty size (instrs.ArrayNewFixed ty size) s refl e
  object_sent (instrs.ArrayNewData ty segment) s e = two_sent (object 9) Types ty DataSegments segment (instrs.ArrayNewData ty segment) s refl e
  object_sent (instrs.ArrayNewElem ty elem) s e = two_sent (object 10) Types ty ElementSegments elem (instrs.ArrayNewElem ty elem) s refl e
  object_sent (instrs.ArrayGet ty) s e = one_sent (object 11) Types ty (instrs.ArrayGet ty) s refl e
  object_sent (instrs.ArrayGetS ty) s e = one_sent (object 12) Types ty (instrs.ArrayGetS ty) s refl e
  object_sent (instrs.ArrayGetU ty) s e = one_sent (object 13) Types ty (instrs.ArrayGetU ty) s refl e
  object_sent (instrs.ArraySet ty) s e = one_sent (object 14) Types ty (instrs.ArraySet ty) s refl e
  object_sent (instrs.ArrayFill ty) s e = one_sent (object 16) Types ty (instrs.ArrayFill ty) s refl e
  object_sent (instrs.ArrayCopy src dst) s e = two_sent (object 17) Types dst Types src (instrs.ArrayCopy src dst) s refl e
  object_sent (instrs.ArrayInitData ty segment) s e = two_sent (object 18) Types ty DataSegments segment (instrs.ArrayInitData ty segment) s refl e
  object_sent (instrs.ArrayInitElem ty elem) s e = two_sent (object 19) Types ty ElementSegments elem (instrs.ArrayInitElem ty elem) s refl e
  object_sent (instrs.RefNull ty) s e = heap_sent (byte 0xd0) ty.heap_type (instrs.RefNull ty) s (λ v h. rw h refl) e
  object_sent (instrs.RefTest ty) s e = heap_sent (test_code ty.nullable) ty.heap_type (instrs.RefTest ty) s (λ v h. rw h refl) e
  object_sent (instrs.RefCast ty) s e = heap_sent (cast_code ty.nullable) ty.heap_type (instrs.RefCast ty) s (λ v h. rw h refl) e
  object_sent _ s e = absurd cc

  memory_sent : (i : Instr) (s : Seen) → memory_op look i ≡ Ok (Some s) → IsSent r i s
  unfolding operator_at
  memory_sent (instrs.MemorySize memory) s e = one_sent (byte 0x3f) Memories memory (instrs.MemorySize memory) s refl e
  memory_sent (instrs.MemoryGrow memory) s e = one_sent (byte 0x40) Memories memory (instrs.MemoryGrow memory) s refl e
  memory_sent (instrs.MemoryInit memory segment) s e = two_sent (bulk 8) DataSegments segment Memories memory (instrs.MemoryInit memory segment) s refl e
  memory_sent (instrs.DataDrop segment) s e = one_sent (bulk 9) DataSegments segment (instrs.DataDrop segment) s refl e
  memory_sent (instrs.MemoryCopy src dst) s e = two_sent (bulk 10) Memories dst Memories src (instrs.MemoryCopy src dst) s refl e
  memory_sent (instrs.MemoryFill memory) s e = one_sent (bulk 11) Memories memory (instrs.MemoryFill memory) s refl e
  memory_sent (instrs.Load memory kind arg) s e = access_sent (load_code kind) memory arg None (instrs.Load memory kind arg) s refl e
  memory_sent (instrs.Store memory kind arg) s e = access_sent (store_code kind) memory arg None (instrs.Store memory kind arg) s refl e
  memory_sent (instrs.LoadSimd memory kind arg) s e = access_sent (simd_code kind) memory arg (simd_lane kind) (instrs.LoadSimd memory kind arg) s refl e
  memory_sent (instrs.AtomicNotify memory arg) s e = access_sent (atomic 0) memory arg None (instrs.AtomicNotify memory arg) s refl e
  memory_sent (instrs.AtomicWait memory arg sixty_four) s e = access_sent (atomic (if sixty_four then 2 else 1)) memory arg None (instrs.AtomicWait memory arg sixty_four) s refl e
  memory_sent (instrs.AtomicRmw memory change width arg) s e = access_sent (rmw_code change width) memory arg None (instrs.AtomicRmw memory change width arg) s refl e
  memory_sent (instrs.Cmpxchg memory width arg) s e = access_sent (cmpxchg_code width) memory arg None (instrs.Cmpxchg memory width arg) s refl e
  memory_sent _ s e = absurd cc

  numeric_sent : (i : Instr) (s : Seen) → numeric i ≡ Ok (Some s) → IsSent r i s
  unfolding operator_at
  numeric_sent (instrs.Const (constants.I32 z)) s e = given_sent (byte 0x41) (S32 z ∷ []) (instrs.Const (constants.I32 z)) s refl refl e
  numeric_sent (instrs.Const (constants.I64 z)) s e = given_sent (byte 0x42) (S64 z ∷ []) (instrs.Const (constants.I64 z)) s refl refl e
  numeric_sent (instrs.Const (constants.F32 n)) s e = given_sent (byte 0x43) (Bits 4 n ∷ []) (instrs.Const (constants.F32 n)) s refl refl e
  numeric_sent (instrs.Const (constants.F64 n)) s e = given_sent (byte 0x44) (Bits 8 n ∷ []) (instrs.Const (constants.F64 n)) s refl refl e
  numeric_sent (instrs.Const (constants.V128 n)) s e = given_sent (vector 12) (Bytes (to_le_bytes w128 n) ∷ []) (instrs.Const (constants.V128 n)) s refl refl e
  numeric_sent (instrs.Unop o) s e = given_sent (unary_code o) (lane_items (unary_lane o)) (instrs.Unop o) s refl (lanes_same (unary_lane o)) e
  numeric_sent (instrs.Binop o) s e = given_sent (binary_code o) (lane_items (binary_lane o)) (instrs.Binop o) s refl (lanes_same (binary_lane o)) e
  numeric_sent (instrs.I8x16Shuffle lanes) s e = given_sent (vector 13) (Bytes lanes ∷ []) (instrs.I8x16Shuffle lanes) s refl refl e
  numeric_sent instrs.AtomicFence s e = given_sent (atomic 3) (Byte 0 ∷ []) instrs.AtomicFence s refl refl e
  numeric_sent _ s e = absurd cc

  bare_sent : (i : Instr) (s : Seen) → of_code (bare_code i) ≡ Ok (Some s) → IsSent r i s
  unfolding operator_at
  bare_sent instrs.Unreachable s e = given_sent (byte 0x00) [] instrs.Unreachable s refl refl e
  bare_sent instrs.ThrowRef s e = given_sent (byte 0x0a) [] instrs.ThrowRef s refl refl e
  bare_sent instrs.Return s e = given_sent (byte 0x0f) [] instrs.Return s refl refl e
  bare_sent instrs.Drop s e = given_sent (byte 0x1a) [] instrs.Drop s refl refl e
  bare_sent (instrs.Select None) s e = given_sent (byte 0x1b) [] (instrs.Select None) s refl refl e
  bare_sent instrs.RefIsNull s e = given_sent (byte 0xd1) [] instrs.RefIsNull s refl refl e
  bare_sent instrs.RefEq s e = given_sent (byte 0xd3) [] instrs.RefEq s refl refl e
  bare_sent instrs.RefAsNonNull s e = given_sent (byte 0xd4) [] instrs.RefAsNonNull s refl refl e
  bare_sent instrs.ArrayLen s e = given_sent (object 15) [] instrs.ArrayLen s refl refl e
  bare_sent instrs.AnyConvertExtern s e = given_sent (object 26) [] instrs.AnyConvertExtern s refl refl e
  bare_sent instrs.ExternConvertAny s e = given_sent (object 27) [] instrs.ExternConvertAny s refl refl e
  bare_sent instrs.RefI31 s e = given_sent (object 28) [] instrs.RefI31 s refl refl e
  bare_sent instrs.I31GetS s e = given_sent (object 29) [] instrs.I31GetS s refl refl e
  bare_sent instrs.I31GetU s e = given_sent (object 30) [] instrs.I31GetU s refl refl e
  bare_sent instrs.I64Add128 s e = given_sent (bulk 19) [] instrs.I64Add128 s refl refl e
  bare_sent instrs.I64Sub128 s e = given_sent (bulk 20) [] instrs.I64Sub128 s refl refl e
  bare_sent instrs.I8x16Swizzle s e = given_sent (vector 14) [] instrs.I8x16Swizzle s refl refl e
  bare_sent instrs.V128Bitselect s e = given_sent (vector 82) [] instrs.V128Bitselect s refl refl e
  bare_sent (instrs.TernOp o) s e = given_sent (ternary_code o) [] (instrs.TernOp o) s refl refl e
  bare_sent _ s e = absurd cc

  plain_sent : (i : Instr) (s : Seen) → plain_at look i ≡ Ok (Some s) → IsSent r i s
  plain_sent i s e = elim (either_is (of_code (bare_code i)) (either (numeric i) (either (variable look i) (either (memory_op look i) (object_op look i)))) s e) [
    | inl h ↦ bare_sent i s h
    | inr e1 ↦ elim (either_is (numeric i) (either (variable look i) (either (memory_op look i) (object_op look i))) s e1) [
      | inl h ↦ numeric_sent i s h
      | inr e2 ↦ elim (either_is (variable look i) (either (memory_op look i) (object_op look i)) s e2) [
        | inl h ↦ variable_sent i s h
        | inr e3 ↦ elim (either_is (memory_op look i) (object_op look i) s e3) [
          | inl h ↦ memory_sent i s h
          | inr h ↦ object_sent i s h
        ]
      ]
    ]
  ]

pub operators_are_sent : OperatorsAreSent
unfolding operator_at
operators_are_sent r look sends i s e = elim (either_is (plain_at look i) (select look i) s e) [
  | inl h ↦ plain_sent r look sends i s h
  | inr h ↦ select_sent r look sends i s h
]
