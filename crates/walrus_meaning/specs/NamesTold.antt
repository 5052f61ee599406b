-- Lemmas: what a walk is told of an instruction is what its operator names.
use Rattle.std.specs.Prelude.{ℕ, ◌≡◌, Bool, false, List, [], ◌∷◌, ◌++◌, Option, Some, None, Ok, Err, if◌then◌else◌, refl}
use Rattle.std.specs.Int.{w128, to_le_bytes}
use Rattle.std.proofs.Common.{ap, sym, ◌∙◌, subst, inl, inr}
use Rattle.wasm_ref_types.specs.declared.heap.HeapType.{HeapType as WrittenHeap}
use Rattle.wasm_ref_types.specs.declared.value.ValType.{ValType as WrittenValue}
use Rattle.wasm_ref_types.specs.declared.value.ValType.TheVariants.{Ref as WRef}
use Rattle.wasm_ref_types.specs.Reference.{reference}
use Rattle.wasm_operators.specs.Items.{Types, Functions, Tables, Memories, Tags, Globals, ElementSegments, DataSegments, Locals, Item, Names, Number, S32, S64, Bits, Byte, Bytes, Heap, Access, ManyValues}
use Rattle.wasm_operators.specs.declared.op_code.OpCode.{OpCode}
use Rattle.wasm_operators.specs.Operators.{Seen}
use Rattle.walrus_pairing.specs.wasm_operators.Names.{heap_names, value_names, operator_names}
use Rattle.walrus_forms.specs.declared.value.HeapType.{HeapType}
use Rattle.walrus_forms.specs.declared.value.HeapType.TheVariants.{Abstract, Shared, Concrete, Exact}
use Rattle.walrus_forms.specs.declared.value.RefType.{RefType}
use Rattle.walrus_forms.specs.declared.value.ValType.{ValType}
use Rattle.walrus_forms.specs.declared.value.ValType.TheVariants.{I32, I64, F32, F64, V128, Ref}
use Rattle.walrus_instr.specs.declared.instr.Instr.{Instr}
use Rattle.walrus_instr.specs.declared.instr.Instr.TheVariants as instrs
use Rattle.walrus_instr.specs.declared.instr.Value.TheVariants as constants
use Rattle.walrus_instr.specs.declared.memory.MemArg.{MemArg}
use Rattle.walrus_builder.specs.walrus_walks.Events.{ref_names, val_names, names}
use Rattle.walrus_codes.specs.Runs.{byte, object, bulk, vector, atomic}
use Rattle.walrus_codes.specs.Unary.{unary_code, unary_lane}
use Rattle.walrus_codes.specs.Binary.{binary_code, binary_lane}
use Rattle.walrus_codes.specs.Ternary.{ternary_code}
use Rattle.walrus_codes.specs.Access.{load_code, store_code, simd_code, simd_lane, rmw_code, cmpxchg_code}
use Rattle.walrus_pairing.specs.Looks.{Or, ◌>>=◌}
use Rattle.walrus_pairing.specs.Types.{written_heap, written_value}
use Rattle.walrus_pairing.specs.Write.{seen_of, op, either, of_code, bare_code, numeric, variable, memory_op, object_op, plain_at, select, operator_at, lane_items, access_of, test_code, cast_code}
use Rattle.walrus_meaning.specs.Told.{told_all, is_reversed, SameNames, NamesAreTold}
use Rattle.walrus_pairing.specs.Laws.{all}
use Rattle.walrus_pairing.specs.Back.{some_is, ok_is}
use Rattle.walrus_pairing.specs.Together.{either_is}

-- the operator is this one, whose names are told
as_told : (i : Instr) (code : OpCode) (items : List Item) (s : Seen) → SameNames i (seen_of code items) → op code items ≡ Ok (Some s) → SameNames i s
as_told i code items s told e = subst (SameNames i) (some_is (seen_of code items) s e) told

heap_told : (nullable : Bool) (h : HeapType) (w : WrittenHeap) → written_heap (all Types) h ≡ Ok w → told_all (ref_names (record { nullable = nullable; heap_type = h })) ≡ heap_names w
heap_told nullable (Abstract kind) w e = subst (λ x. [] ≡ heap_names x) (ok_is _ w e) refl
heap_told nullable (Shared kind) w e = subst (λ x. [] ≡ heap_names x) (ok_is _ w e) refl
heap_told nullable (Concrete id) w e = subst (λ x. (Types, id) ∷ [] ≡ heap_names x) (ok_is _ w e) refl
heap_told nullable (Exact id) w e = subst (λ x. (Types, id) ∷ [] ≡ heap_names x) (ok_is _ w e) refl

nothing_more : {A : Type 0} (xs : List A) → xs ++ [] ≡ xs
nothing_more [] = refl
nothing_more {A} (x ∷ xs) = ap (λ (l : List A). x ∷ l) (nothing_more xs)

lane_names : (lane : Option ℕ) (code : OpCode) → operator_names (seen_of code (lane_items lane)) ≡ []
lane_names None code = refl
lane_names (Some lane) code = refl

access_names : (lane : Option ℕ) (code : OpCode) (memory : ℕ) (arg : MemArg) → operator_names (seen_of code (Access (access_of memory arg) ∷ lane_items lane)) ≡ (Memories, memory) ∷ []
access_names None code memory arg = refl
access_names (Some lane) code memory arg = refl

variable_told : (i : Instr) (s : Seen) → variable all i ≡ Ok (Some s) → SameNames i s
variable_told (instrs.Throw tag) s e = as_told (instrs.Throw tag) (byte 0x08) (Names Tags tag ∷ []) s refl e
variable_told (instrs.Call func) s e = as_told (instrs.Call func) (byte 0x10) (Names Functions func ∷ []) s refl e
variable_told (instrs.CallIndirect ty table) s e = as_told (instrs.CallIndirect ty table) (byte 0x11) (Names Types ty ∷ Names Tables table ∷ []) s refl e
variable_told (instrs.ReturnCall func) s e = as_told (instrs.ReturnCall func) (byte 0x12) (Names Functions func ∷ []) s refl e
variable_told (instrs.ReturnCallIndirect ty table) s e = as_told (instrs.ReturnCallIndirect ty table) (byte 0x13) (Names Types ty ∷ Names Tables table ∷ []) s refl e
variable_told (instrs.CallRef ty) s e = as_told (instrs.CallRef ty) (byte 0x14) (Names Types ty ∷ []) s refl e
variable_told (instrs.ReturnCallRef ty) s e = as_told (instrs.ReturnCallRef ty) (byte 0x15) (Names Types ty ∷ []) s refl e
variable_told (instrs.LocalGet local) s e = as_told (instrs.LocalGet local) (byte 0x20) (Names Locals local ∷ []) s refl e
variable_told (instrs.LocalSet local) s e = as_told (instrs.LocalSet local) (byte 0x21) (Names Locals local ∷ []) s refl e
variable_told (instrs.LocalTee local) s e = as_told (instrs.LocalTee local) (byte 0x22) (Names Locals local ∷ []) s refl e
variable_told (instrs.GlobalGet global) s e = as_told (instrs.GlobalGet global) (byte 0x23) (Names Globals global ∷ []) s refl e
variable_told (instrs.GlobalSet global) s e = as_told (instrs.GlobalSet global) (byte 0x24) (Names Globals global ∷ []) s refl e
variable_told (instrs.TableGet table) s e = as_told (instrs.TableGet table) (byte 0x25) (Names Tables table ∷ []) s refl e
variable_told (instrs.TableSet table) s e = as_told (instrs.TableSet table) (byte 0x26) (Names Tables table ∷ []) s refl e
variable_told (instrs.RefFunc func) s e = as_told (instrs.RefFunc func) (byte 0xd2) (Names Functions func ∷ []) s refl e
variable_told (instrs.TableInit table elem) s e = as_told (instrs.TableInit table elem) (bulk 12) (Names ElementSegments elem ∷ Names Tables table ∷ []) s refl e
variable_told (instrs.ElemDrop elem) s e = as_told (instrs.ElemDrop elem) (bulk 13) (Names ElementSegments elem ∷ []) s refl e
variable_told (instrs.TableCopy src dst) s e = as_told (instrs.TableCopy src dst) (bulk 14) (Names Tables dst ∷ Names Tables src ∷ []) s refl e
variable_told (instrs.TableGrow table) s e = as_told (instrs.TableGrow table) (bulk 15) (Names Tables table ∷ []) s refl e
variable_told (instrs.TableSize table) s e = as_told (instrs.TableSize table) (bulk 16) (Names Tables table ∷ []) s refl e
variable_told (instrs.TableFill table) s e = as_told (instrs.TableFill table) (bulk 17) (Names Tables table ∷ []) s refl e
variable_told _ s e = absurd cc

ref_told : (i : Instr) (code : OpCode) (ty : RefType) (s : Seen) → names i ≡ ref_names ty → is_reversed i ≡ false
    → (written_heap (all Types) ty.heap_type >>= λ h. op code (Heap h ∷ [])) ≡ Ok (Some s) → SameNames i s
ref_told i code ty s is onward e = at (written_heap (all Types) ty.heap_type) refl
  where
    at : (r : Or WrittenHeap) → written_heap (all Types) ty.heap_type ≡ r → SameNames i s
    at (Ok h) w = as_told i code (Heap h ∷ []) s (rw onward (ap told_all is ∙ heap_told ty.nullable ty.heap_type h w ∙ sym (nothing_more (heap_names h)))) (rw w at e)
    at (Err x) w = absurd (let v = (rw w at e) in cc)

object_told : (i : Instr) (s : Seen) → object_op all i ≡ Ok (Some s) → SameNames i s
object_told (instrs.StructNew ty) s e = as_told (instrs.StructNew ty) (object 0) (Names Types ty ∷ []) s refl e
object_told (instrs.StructNewDefault ty) s e = as_told (instrs.StructNewDefault ty) (object 1) (Names Types ty ∷ []) s refl e
object_told (instrs.StructGet ty field) s e = as_told (instrs.StructGet ty field) (object 2) (Names Types ty ∷ Number field ∷ []) s refl e
object_told (instrs.StructGetS ty field) s e = as_told (instrs.StructGetS ty field) (object 3) (Names Types ty ∷ Number field ∷ []) s refl e
object_told (instrs.StructGetU ty field) s e = as_told (instrs.StructGetU ty field) (object 4) (Names Types ty ∷ Number field ∷ []) s refl e
object_told (instrs.StructSet ty field) s e = as_told (instrs.StructSet ty field) (object 5) (Names Types ty ∷ Number field ∷ []) s refl e
object_told (instrs.ArrayNew ty) s e = as_told (instrs.ArrayNew ty) (object 6) (Names Types ty ∷ []) s refl e
object_told (instrs.ArrayNewDefault ty) s e = as_told (instrs.ArrayNewDefault ty) (object 7) (Names Types ty ∷ []) s refl e
object_told (instrs.ArrayNewFixed ty size) s e = as_told (instrs.ArrayNewFixed ty size) (object 8) (Names Types ty ∷ Number size ∷ []) s refl e
object_told (instrs.ArrayNewData ty segment) s e = as_told (instrs.ArrayNewData ty segment) (object 9) (Names Types ty ∷ Names DataSegments segment ∷ []) s refl e
object_told (instrs.ArrayNewElem ty elem) s e = as_told (instrs.ArrayNewElem ty elem) (object 10) (Names Types ty ∷ Names ElementSegments elem ∷ []) s refl e
object_told (instrs.ArrayGet ty) s e = as_told (instrs.ArrayGet ty) (object 11) (Names Types ty ∷ []) s refl e
object_told (instrs.ArrayGetS ty) s e = as_told (instrs.ArrayGetS ty) (object 12) (Names Types ty ∷ []) s refl e
object_told (instrs.ArrayGetU ty) s e = as_told (instrs.ArrayGetU ty) (object 13) (Names Types ty ∷ []) s refl e
object_told (instrs.ArraySet ty) s e = as_told (instrs.ArraySet ty) (object 14) (Names Types ty ∷ []) s refl e
object_told (instrs.ArrayFill ty) s e = as_told (instrs.ArrayFill ty) (object 16) (Names Types ty ∷ []) s refl e
object_told (instrs.ArrayCopy src dst) s e = as_told (instrs.ArrayCopy src dst) (object 17) (Names Types dst ∷ Names Types src ∷ []) s refl e
object_told (instrs.ArrayInitData ty segment) s e = as_told (instrs.ArrayInitData ty segment) (object 18) (Names Types ty ∷ Names DataSegments segment ∷ []) s refl e
object_told (instrs.ArrayInitElem ty elem) s e = as_told (instrs.ArrayInitElem ty elem) (object 19) (Names Types ty ∷ Names ElementSegments elem ∷ []) s refl e
object_told (instrs.RefNull ty) s e = ref_told (instrs.RefNull ty) (byte 0xd0) ty s refl refl e
object_told (instrs.RefTest ty) s e = ref_told (instrs.RefTest ty) (test_code ty.nullable) ty s refl refl e
object_told (instrs.RefCast ty) s e = ref_told (instrs.RefCast ty) (cast_code ty.nullable) ty s refl refl e
object_told _ s e = absurd cc

memory_told : (i : Instr) (s : Seen) → memory_op all i ≡ Ok (Some s) → SameNames i s
memory_told (instrs.MemorySize memory) s e = as_told (instrs.MemorySize memory) (byte 0x3f) (Names Memories memory ∷ []) s refl e
memory_told (instrs.MemoryGrow memory) s e = as_told (instrs.MemoryGrow memory) (byte 0x40) (Names Memories memory ∷ []) s refl e
memory_told (instrs.MemoryInit memory segment) s e = as_told (instrs.MemoryInit memory segment) (bulk 8) (Names DataSegments segment ∷ Names Memories memory ∷ []) s refl e
memory_told (instrs.DataDrop segment) s e = as_told (instrs.DataDrop segment) (bulk 9) (Names DataSegments segment ∷ []) s refl e
memory_told (instrs.MemoryCopy src dst) s e = as_told (instrs.MemoryCopy src dst) (bulk 10) (Names Memories dst ∷ Names Memories src ∷ []) s refl e
memory_told (instrs.MemoryFill memory) s e = as_told (instrs.MemoryFill memory) (bulk 11) (Names Memories memory ∷ []) s refl e
memory_told (instrs.Load memory kind arg) s e = as_told (instrs.Load memory kind arg) (load_code kind) (Access (access_of memory arg) ∷ lane_items None) s (sym (access_names None (load_code kind) memory arg)) e
memory_told (instrs.Store memory kind arg) s e = as_told (instrs.Store memory kind arg) (store_code kind) (Access (access_of memory arg) ∷ lane_items None) s (sym (access_names None (store_code kind) memory arg)) e
memory_told (instrs.LoadSimd memory kind arg) s e = as_told (instrs.LoadSimd memory kind arg) (simd_code kind) (Access (access_of memory arg) ∷ lane_items (simd_lane kind)) s (sym (access_names (simd_lane kind) (simd_code kind) memory arg)) e
memory_told (instrs.AtomicNotify memory arg) s e = as_told (instrs.AtomicNotify memory arg) (atomic 0) (Access (access_of memory arg) ∷ lane_items None) s (sym (access_names None (atomic 0) memory arg)) e
memory_told (instrs.AtomicWait memory arg sixty_four) s e = as_told (instrs.AtomicWait memory arg sixty_four) (atomic (if sixty_four then 2 else 1)) (Access (access_of memory arg) ∷ lane_items None) s (sym (access_names None (atomic (if sixty_four then 2 else 1)) memory arg)) e
memory_told (instrs.AtomicRmw memory change width arg) s e = as_told (instrs.AtomicRmw memory change width arg) (rmw_code change width) (Access (access_of memory arg) ∷ lane_items None) s (sym (access_names None (rmw_code change width) memory arg)) e
memory_told (instrs.Cmpxchg memory width arg) s e = as_told (instrs.Cmpxchg memory width arg) (cmpxchg_code width) (Access (access_of memory arg) ∷ lane_items None) s (sym (access_names None (cmpxchg_code width) memory arg)) e
memory_told _ s e = absurd cc

numeric_told : (i : Instr) (s : Seen) → numeric i ≡ Ok (Some s) → SameNames i s
numeric_told (instrs.Const (constants.I32 z)) s e = as_told (instrs.Const (constants.I32 z)) (byte 0x41) (S32 z ∷ []) s refl e
numeric_told (instrs.Const (constants.I64 z)) s e = as_told (instrs.Const (constants.I64 z)) (byte 0x42) (S64 z ∷ []) s refl e
numeric_told (instrs.Const (constants.F32 n)) s e = as_told (instrs.Const (constants.F32 n)) (byte 0x43) (Bits 4 n ∷ []) s refl e
numeric_told (instrs.Const (constants.F64 n)) s e = as_told (instrs.Const (constants.F64 n)) (byte 0x44) (Bits 8 n ∷ []) s refl e
numeric_told (instrs.Const (constants.V128 n)) s e = as_told (instrs.Const (constants.V128 n)) (vector 12) (Bytes (to_le_bytes w128 n) ∷ []) s refl e
numeric_told (instrs.Unop o) s e = as_told (instrs.Unop o) (unary_code o) (lane_items (unary_lane o)) s (sym (lane_names (unary_lane o) (unary_code o))) e
numeric_told (instrs.Binop o) s e = as_told (instrs.Binop o) (binary_code o) (lane_items (binary_lane o)) s (sym (lane_names (binary_lane o) (binary_code o))) e
numeric_told (instrs.I8x16Shuffle lanes) s e = as_told (instrs.I8x16Shuffle lanes) (vector 13) (Bytes lanes ∷ []) s refl e
numeric_told instrs.AtomicFence s e = as_told instrs.AtomicFence (atomic 3) (Byte 0 ∷ []) s refl e
numeric_told _ s e = absurd cc

bare_told : (i : Instr) (s : Seen) → of_code (bare_code i) ≡ Ok (Some s) → SameNames i s
bare_told instrs.Unreachable s e = as_told instrs.Unreachable (byte 0x00) [] s refl e
bare_told instrs.ThrowRef s e = as_told instrs.ThrowRef (byte 0x0a) [] s refl e
bare_told instrs.Return s e = as_told instrs.Return (byte 0x0f) [] s refl e
bare_told instrs.Drop s e = as_told instrs.Drop (byte 0x1a) [] s refl e
bare_told (instrs.Select None) s e = as_told (instrs.Select None) (byte 0x1b) [] s refl e
bare_told instrs.RefIsNull s e = as_told instrs.RefIsNull (byte 0xd1) [] s refl e
bare_told instrs.RefEq s e = as_told instrs.RefEq (byte 0xd3) [] s refl e
bare_told instrs.RefAsNonNull s e = as_told instrs.RefAsNonNull (byte 0xd4) [] s refl e
bare_told instrs.ArrayLen s e = as_told instrs.ArrayLen (object 15) [] s refl e
bare_told instrs.AnyConvertExtern s e = as_told instrs.AnyConvertExtern (object 26) [] s refl e
bare_told instrs.ExternConvertAny s e = as_told instrs.ExternConvertAny (object 27) [] s refl e
bare_told instrs.RefI31 s e = as_told instrs.RefI31 (object 28) [] s refl e
bare_told instrs.I31GetS s e = as_told instrs.I31GetS (object 29) [] s refl e
bare_told instrs.I31GetU s e = as_told instrs.I31GetU (object 30) [] s refl e
bare_told instrs.I64Add128 s e = as_told instrs.I64Add128 (bulk 19) [] s refl e
bare_told instrs.I64Sub128 s e = as_told instrs.I64Sub128 (bulk 20) [] s refl e
bare_told instrs.I8x16Swizzle s e = as_told instrs.I8x16Swizzle (vector 14) [] s refl e
bare_told instrs.V128Bitselect s e = as_told instrs.V128Bitselect (vector 82) [] s refl e
bare_told (instrs.TernOp o) s e = as_told (instrs.TernOp o) (ternary_code o) [] s refl e
bare_told _ s e = absurd cc

value_told : (ty : ValType) (v : WrittenValue) → written_value (all Types) ty ≡ Ok v → told_all (val_names ty) ≡ value_names v
value_told I32 v e = subst (λ x. [] ≡ value_names x) (ok_is _ v e) refl
value_told I64 v e = subst (λ x. [] ≡ value_names x) (ok_is _ v e) refl
value_told F32 v e = subst (λ x. [] ≡ value_names x) (ok_is _ v e) refl
value_told F64 v e = subst (λ x. [] ≡ value_names x) (ok_is _ v e) refl
value_told V128 v e = subst (λ x. [] ≡ value_names x) (ok_is _ v e) refl
value_told (Ref ty) v e = at (written_heap (all Types) ty.heap_type) refl
  where
    at : (r : Or WrittenHeap) → written_heap (all Types) ty.heap_type ≡ r → told_all (val_names (Ref ty)) ≡ value_names v
    at (Ok h) w = heap_told ty.nullable ty.heap_type h w ∙ ap value_names (ok_is (WRef (reference ty.nullable h)) v (rw w at e))
    at (Err x) w = absurd (let y = (rw w at e) in cc)

select_told : (i : Instr) (s : Seen) → select all i ≡ Ok (Some s) → SameNames i s
select_told (instrs.Select (Some ty)) s e = at (written_value (all Types) ty) refl
  where
    at : (r : Or WrittenValue) → written_value (all Types) ty ≡ r → SameNames (instrs.Select (Some ty)) s
    at (Ok v) w = as_told (instrs.Select (Some ty)) (byte 0x1c) (ManyValues (v ∷ []) ∷ []) s (value_told ty v w ∙ sym (nothing_more (value_names v ++ []) ∙ nothing_more (value_names v))) (rw w at e)
    at (Err x) w = absurd (let y = (rw w at e) in cc)
select_told _ s e = absurd cc

plain_told : (i : Instr) (s : Seen) → plain_at all i ≡ Ok (Some s) → SameNames i s
plain_told i s e = elim (either_is (of_code (bare_code i)) (either (numeric i) (either (variable all i) (either (memory_op all i) (object_op all i)))) s e) [
  | inl h ↦ bare_told i s h
  | inr e1 ↦ elim (either_is (numeric i) (either (variable all i) (either (memory_op all i) (object_op all i))) s e1) [
    | inl h ↦ numeric_told i s h
    | inr e2 ↦ elim (either_is (variable all i) (either (memory_op all i) (object_op all i)) s e2) [
      | inl h ↦ variable_told i s h
      | inr e3 ↦ elim (either_is (memory_op all i) (object_op all i) s e3) [
        | inl h ↦ memory_told i s h
        | inr h ↦ object_told i s h
      ]
    ]
  ]
]

pub names_are_told : NamesAreTold
unfolding operator_at
names_are_told i s e = elim (either_is (plain_at all i) (select all i) s e) [
  | inl h ↦ plain_told i s h
  | inr h ↦ select_told i s h
]
