-- Lemmas: what is written for an instruction stands as it does, and names the locals and data segments that it names.
use Rattle.std.specs.Prelude.{ℕ, ◌≡◌, true, false, List, [], ◌∷◌, map, slice_get, Option, Some, None, Ok, Err, refl}
use Rattle.std.proofs.Common.{ap, sym}
use Rattle.wasm_operators.specs.Items.{Space, Types, Functions, Tables, Memories, Tags, Globals, ElementSegments, DataSegments, Locals, Labels, Names, Number, Byte, Heap, Block, Access, ManyValues, ManyClauses}
use Rattle.wasm_operators.specs.declared.op_code.OpCode.{OpCode}
use Rattle.wasm_operators.specs.Operators.{Seen}
use Rattle.wasm_operators.specs.Table.{structure_rows, call_rows, plain_rows, fb_rows, fc_rows, fd_rows, fe_rows}
use Rattle.walrus_forms.specs.declared.value.HeapType.{HeapType}
use Rattle.walrus_instr.specs.declared.instr.Instr.{Instr}
use Rattle.walrus_instr.specs.declared.instr.Instr.TheVariants as instrs
use Rattle.walrus_instr.specs.declared.instr.Value.TheVariants as constants
use Rattle.walrus_instr.specs.declared.memory.MemArg.{MemArg}
use Rattle.walrus_instr.specs.declared.seq.InstrSeq.{InstrSeq}
use Rattle.walrus_codes.specs.Runs.{byte, object, bulk, atomic}
use Rattle.walrus_codes.specs.Unary.{unary_lane}
use Rattle.walrus_codes.specs.Binary.{binary_lane}
use Rattle.walrus_codes.specs.Access.{load_code, store_code, simd_code, simd_lane, rmw_code, cmpxchg_code}
use Rattle.walrus_pairing.specs.Looks.{Look, Or, ◌>>=◌, found}
use Rattle.walrus_pairing.specs.Types.{written_heap, written_value}
use Rattle.walrus_pairing.specs.Write.{op, either, one, two, counted, access, access_of, lane_items, heap, test_code, cast_code, operator_at}
use Rattle.walrus_body_names.specs.Names.{local_in, segment_in}
use Rattle.walrus_body_names.specs.walrus_body_writer.Spelled.{block, clauses, type_in, written_instr}
use Rattle.walrus_body_laws.proofs.Codes.{unary_runs, binary_runs, ternary_runs, simd_runs, load_runs, store_runs, rmw_runs, cmpxchg_runs, test_runs, cast_runs}
use Rattle.walrus_body_laws.specs.Naming.{role_at, instr_role, locals_of, segments_of, Told}

-- ---- answers, step by step

module _ (look : Look) (i : Instr) where
  pub told_bind : {A : Type 0} (x : Or A) (f : A → Or (Option Seen)) → ((a : A) → Told look i (f a)) → Told look i (x >>= f)
  told_bind (Ok a) f h = h a
  told_bind (Err e) f h = tt

  told_found : (o : Option ℕ) (id : ℕ) (space : Space) → look space id ≡ o → (f : ℕ → Or (Option Seen)) → ((n : ℕ) → look space id ≡ Some n → Told look i (f n)) → Told look i (found look space id >>= f)
  told_found (Some n) id space e f h = rw e (h n e)
  told_found None id space e f h = rw e tt

  told_either : (x y : Or (Option Seen)) → Told look i x → Told look i (either x y)
  told_either (Ok (Some s)) y h = h
  told_either (Ok None) y h = absurd h
  told_either (Err e) y h = tt

  told_one : (code : OpCode) (space : Space) (id : ℕ) → ((n : ℕ) → Told look i (op code (Names space n ∷ []))) → Told look i (one look code space id)
  told_one code space id h = told_bind (found look space id) (λ n. op code (Names space n ∷ [])) h

  told_counted : (code : OpCode) (space : Space) (id count : ℕ) → ((n : ℕ) → Told look i (op code (Names space n ∷ Number count ∷ []))) → Told look i (counted look code space id count)
  told_counted code space id count h = told_bind (found look space id) (λ n. op code (Names space n ∷ Number count ∷ [])) h

  told_two : (code : OpCode) (first : Space) (id : ℕ) (second : Space) (other : ℕ) → ((m n : ℕ) → Told look i (op code (Names first m ∷ Names second n ∷ []))) → Told look i (two look code first id second other)
  told_two code first id second other h =
      told_bind (found look first id) (λ m. found look second other >>= λ n. op code (Names first m ∷ Names second n ∷ []))
      (λ m. told_bind (found look second other) (λ n. op code (Names first m ∷ Names second n ∷ [])) (h m))

  told_heap : (code : OpCode) (ty : HeapType) → ((h : _) → Told look i (op code (Heap h ∷ []))) → Told look i (heap look code ty)
  told_heap code ty h = told_bind (written_heap (look Types) ty) (λ t. op code (Heap t ∷ [])) h

  told_access : (code : OpCode) (memory : ℕ) (arg : MemArg) (lane : Option ℕ) → ((n : ℕ) → Told look i (op code (Access (access_of n arg) ∷ lane_items lane))) → Told look i (access look code memory arg lane)
  told_access code memory arg lane h = told_bind (found look Memories memory) (λ n. op code (Access (access_of n arg) ∷ lane_items lane)) h

-- lanes name nothing
no_locals : (lane : Option ℕ) → locals_of (lane_items lane) ≡ []
no_locals (Some l) = refl
no_locals None = refl

no_segments : (lane : Option ℕ) → segments_of (lane_items lane) ≡ []
no_segments (Some l) = refl
no_segments None = refl

some_none : (xs : List ℕ) → xs ≡ [] → ◌≡◌ {A = List (Option ℕ)} [] (map Some xs)
some_none xs e = ap (map Some) (sym e)

-- ---- instructions

module _ (look : Look) (b : List InstrSeq) (number : ℕ → ℕ) where
  opened : (code k : ℕ) (i : Instr) → role_at (byte code) ≡ instr_role i → local_in i ≡ [] → segment_in i ≡ [] → Told look i (block look (type_in (slice_get b k)) >>= λ ty. op (byte code) (Block ty ∷ []))
  opened code k i w l s = told_bind look i (block look (type_in (slice_get b k))) (λ ty. op (byte code) (Block ty ∷ [])) (λ ty. (w, ap (map (look Locals)) l, ap (map (look DataSegments)) s))

  cast_told : (code k : ℕ) (i : Instr) (from to : HeapType) (flags label : ℕ) → role_at (object code) ≡ instr_role i → local_in i ≡ [] → segment_in i ≡ []
      → Told look i (written_heap (look Types) from >>= λ x. written_heap (look Types) to >>= λ y. op (object code) (Byte flags ∷ Names Labels label ∷ Heap x ∷ Heap y ∷ []))
  cast_told code k i from to flags label w l s =
      told_bind look i (written_heap (look Types) from) (λ x. written_heap (look Types) to >>= λ y. op (object code) (Byte flags ∷ Names Labels label ∷ Heap x ∷ Heap y ∷ []))
      (λ x. told_bind look i (written_heap (look Types) to) (λ y. op (object code) (Byte flags ∷ Names Labels label ∷ Heap x ∷ Heap y ∷ []))
      (λ y. (w, ap (map (look Locals)) l, ap (map (look DataSegments)) s)))

  pub told : (i : Instr) → Told look i (written_instr look b number i)
  unfolding operator_at structure_rows call_rows plain_rows fb_rows fc_rows fd_rows fe_rows
  told (instrs.Block k) = opened 0x02 k (instrs.Block k) refl refl refl
  told (instrs.Loop k) = opened 0x03 k (instrs.Loop k) refl refl refl
  told (instrs.IfElse k other) = opened 0x04 k (instrs.IfElse k other) refl refl refl
  told (instrs.Try k catches) = opened 0x06 k (instrs.Try k catches) refl refl refl
  told (instrs.TryTable k catches) =
      told_bind look (instrs.TryTable k catches) (block look (type_in (slice_get b k))) (λ ty. clauses look number catches.items >>= λ cs. op (byte 0x1f) (Block ty ∷ ManyClauses cs ∷ []))
      (λ ty. told_bind look (instrs.TryTable k catches) (clauses look number catches.items) (λ cs. op (byte 0x1f) (Block ty ∷ ManyClauses cs ∷ [])) (λ cs. (refl, refl, refl)))
  told (instrs.Br k) = (refl, refl, refl)
  told (instrs.BrIf k) = (refl, refl, refl)
  told (instrs.BrTable other ks) = (refl, refl, refl)
  told (instrs.BrOnNull k) = (refl, refl, refl)
  told (instrs.BrOnNonNull k) = (refl, refl, refl)
  told (instrs.Rethrow depth) = (refl, refl, refl)
  told (instrs.BrOnCast k from to) = cast_told 24 k (instrs.BrOnCast k from to) from.heap_type to.heap_type _ (number k) refl refl refl
  told (instrs.BrOnCastFail k from to) = cast_told 25 k (instrs.BrOnCastFail k from to) from.heap_type to.heap_type _ (number k) refl refl refl
  told instrs.Unreachable = (refl, refl, refl)
  told instrs.ThrowRef = (refl, refl, refl)
  told instrs.Return = (refl, refl, refl)
  told instrs.Drop = (refl, refl, refl)
  told (instrs.Select None) = (refl, refl, refl)
  told instrs.RefIsNull = (refl, refl, refl)
  told instrs.RefEq = (refl, refl, refl)
  told instrs.RefAsNonNull = (refl, refl, refl)
  told instrs.ArrayLen = (refl, refl, refl)
  told instrs.AnyConvertExtern = (refl, refl, refl)
  told instrs.ExternConvertAny = (refl, refl, refl)
  told instrs.RefI31 = (refl, refl, refl)
  told instrs.I31GetS = (refl, refl, refl)
  told instrs.I31GetU = (refl, refl, refl)
  told instrs.I64Add128 = (refl, refl, refl)
  told instrs.I64Sub128 = (refl, refl, refl)
  told instrs.I8x16Swizzle = (refl, refl, refl)
  told instrs.V128Bitselect = (refl, refl, refl)
  told (instrs.TernOp op) = (ternary_runs op, refl, refl)
  told (instrs.Const (constants.I32 z)) = (refl, refl, refl)
  told (instrs.Const (constants.I64 z)) = (refl, refl, refl)
  told (instrs.Const (constants.F32 bits)) = (refl, refl, refl)
  told (instrs.Const (constants.F64 bits)) = (refl, refl, refl)
  told (instrs.Const (constants.V128 bits)) = (refl, refl, refl)
  told (instrs.Unop o) = (unary_runs o, some_none (locals_of (lane_items (unary_lane o))) (no_locals (unary_lane o)), some_none (segments_of (lane_items (unary_lane o))) (no_segments (unary_lane o)))
  told (instrs.Binop o) = (binary_runs o, some_none (locals_of (lane_items (binary_lane o))) (no_locals (binary_lane o)), some_none (segments_of (lane_items (binary_lane o))) (no_segments (binary_lane o)))
  told (instrs.I8x16Shuffle lanes) = (refl, refl, refl)
  told instrs.AtomicFence = (refl, refl, refl)
  told (instrs.Throw tag) = told_either look (instrs.Throw tag) _ _ (told_either look (instrs.Throw tag) _ _ (told_one look (instrs.Throw tag) (byte 0x08) Tags tag (λ n. (refl, refl, refl))))
  told (instrs.Call func) = told_either look (instrs.Call func) _ _ (told_either look (instrs.Call func) _ _ (told_one look (instrs.Call func) (byte 0x10) Functions func (λ n. (refl, refl, refl))))
  told (instrs.CallIndirect ty table) = told_either look (instrs.CallIndirect ty table) _ _ (told_either look (instrs.CallIndirect ty table) _ _ (told_two look (instrs.CallIndirect ty table) (byte 0x11) Types ty Tables table (λ m n. (refl, refl, refl))))
  told (instrs.ReturnCall func) = told_either look (instrs.ReturnCall func) _ _ (told_either look (instrs.ReturnCall func) _ _ (told_one look (instrs.ReturnCall func) (byte 0x12) Functions func (λ n. (refl, refl, refl))))
  told (instrs.ReturnCallIndirect ty table) = told_either look (instrs.ReturnCallIndirect ty table) _ _ (told_either look (instrs.ReturnCallIndirect ty table) _ _ (told_two look (instrs.ReturnCallIndirect ty table) (byte 0x13) Types ty Tables table (λ m n. (refl, refl, refl))))
  told (instrs.CallRef ty) = told_either look (instrs.CallRef ty) _ _ (told_either look (instrs.CallRef ty) _ _ (told_one look (instrs.CallRef ty) (byte 0x14) Types ty (λ n. (refl, refl, refl))))
  told (instrs.ReturnCallRef ty) = told_either look (instrs.ReturnCallRef ty) _ _ (told_either look (instrs.ReturnCallRef ty) _ _ (told_one look (instrs.ReturnCallRef ty) (byte 0x15) Types ty (λ n. (refl, refl, refl))))
  told (instrs.LocalGet local) = told_either look (instrs.LocalGet local) _ _ (told_either look (instrs.LocalGet local) _ _ (told_found look (instrs.LocalGet local) (look Locals local) local Locals refl (λ n. op (byte 0x20) (Names Locals n ∷ [])) (λ n e. (refl, ap (λ (z : Option ℕ). z ∷ []) e, refl))))
  told (instrs.LocalSet local) = told_either look (instrs.LocalSet local) _ _ (told_either look (instrs.LocalSet local) _ _ (told_found look (instrs.LocalSet local) (look Locals local) local Locals refl (λ n. op (byte 0x21) (Names Locals n ∷ [])) (λ n e. (refl, ap (λ (z : Option ℕ). z ∷ []) e, refl))))
  told (instrs.LocalTee local) = told_either look (instrs.LocalTee local) _ _ (told_either look (instrs.LocalTee local) _ _ (told_found look (instrs.LocalTee local) (look Locals local) local Locals refl (λ n. op (byte 0x22) (Names Locals n ∷ [])) (λ n e. (refl, ap (λ (z : Option ℕ). z ∷ []) e, refl))))
  told (instrs.GlobalGet global) = told_either look (instrs.GlobalGet global) _ _ (told_either look (instrs.GlobalGet global) _ _ (told_one look (instrs.GlobalGet global) (byte 0x23) Globals global (λ n. (refl, refl, refl))))
  told (instrs.GlobalSet global) = told_either look (instrs.GlobalSet global) _ _ (told_either look (instrs.GlobalSet global) _ _ (told_one look (instrs.GlobalSet global) (byte 0x24) Globals global (λ n. (refl, refl, refl))))
  told (instrs.TableGet table) = told_either look (instrs.TableGet table) _ _ (told_either look (instrs.TableGet table) _ _ (told_one look (instrs.TableGet table) (byte 0x25) Tables table (λ n. (refl, refl, refl))))
  told (instrs.TableSet table) = told_either look (instrs.TableSet table) _ _ (told_either look (instrs.TableSet table) _ _ (told_one look (instrs.TableSet table) (byte 0x26) Tables table (λ n. (refl, refl, refl))))
  told (instrs.RefFunc func) = told_either look (instrs.RefFunc func) _ _ (told_either look (instrs.RefFunc func) _ _ (told_one look (instrs.RefFunc func) (byte 0xd2) Functions func (λ n. (refl, refl, refl))))
  told (instrs.TableInit table elem) = told_either look (instrs.TableInit table elem) _ _ (told_either look (instrs.TableInit table elem) _ _ (told_two look (instrs.TableInit table elem) (bulk 12) ElementSegments elem Tables table (λ m n. (refl, refl, refl))))
  told (instrs.ElemDrop elem) = told_either look (instrs.ElemDrop elem) _ _ (told_either look (instrs.ElemDrop elem) _ _ (told_one look (instrs.ElemDrop elem) (bulk 13) ElementSegments elem (λ n. (refl, refl, refl))))
  told (instrs.TableCopy src dst) = told_either look (instrs.TableCopy src dst) _ _ (told_either look (instrs.TableCopy src dst) _ _ (told_two look (instrs.TableCopy src dst) (bulk 14) Tables dst Tables src (λ m n. (refl, refl, refl))))
  told (instrs.TableGrow table) = told_either look (instrs.TableGrow table) _ _ (told_either look (instrs.TableGrow table) _ _ (told_one look (instrs.TableGrow table) (bulk 15) Tables table (λ n. (refl, refl, refl))))
  told (instrs.TableSize table) = told_either look (instrs.TableSize table) _ _ (told_either look (instrs.TableSize table) _ _ (told_one look (instrs.TableSize table) (bulk 16) Tables table (λ n. (refl, refl, refl))))
  told (instrs.TableFill table) = told_either look (instrs.TableFill table) _ _ (told_either look (instrs.TableFill table) _ _ (told_one look (instrs.TableFill table) (bulk 17) Tables table (λ n. (refl, refl, refl))))
  told (instrs.Load memory kind arg) = told_either look (instrs.Load memory kind arg) _ _ (told_either look (instrs.Load memory kind arg) _ _ (told_access look (instrs.Load memory kind arg) (load_code kind) memory arg None (λ n. (load_runs kind, refl, refl))))
  told (instrs.Store memory kind arg) = told_either look (instrs.Store memory kind arg) _ _ (told_either look (instrs.Store memory kind arg) _ _ (told_access look (instrs.Store memory kind arg) (store_code kind) memory arg None (λ n. (store_runs kind, refl, refl))))
  told (instrs.LoadSimd memory kind arg) = told_either look (instrs.LoadSimd memory kind arg) _ _ (told_either look (instrs.LoadSimd memory kind arg) _ _ (told_access look (instrs.LoadSimd memory kind arg) (simd_code kind) memory arg (simd_lane kind) (λ n. (simd_runs kind, some_none (locals_of (lane_items (simd_lane kind))) (no_locals (simd_lane kind)), some_none (segments_of (lane_items (simd_lane kind))) (no_segments (simd_lane kind))))))
  told (instrs.MemorySize memory) = told_either look (instrs.MemorySize memory) _ _ (told_either look (instrs.MemorySize memory) _ _ (told_one look (instrs.MemorySize memory) (byte 0x3f) Memories memory (λ n. (refl, refl, refl))))
  told (instrs.MemoryGrow memory) = told_either look (instrs.MemoryGrow memory) _ _ (told_either look (instrs.MemoryGrow memory) _ _ (told_one look (instrs.MemoryGrow memory) (byte 0x40) Memories memory (λ n. (refl, refl, refl))))
  told (instrs.MemoryInit memory segment) = told_either look (instrs.MemoryInit memory segment) _ _ (told_either look (instrs.MemoryInit memory segment) _ _ (told_found look (instrs.MemoryInit memory segment) (look DataSegments segment) segment DataSegments refl (λ m. found look Memories memory >>= λ n. op (bulk 8) (Names DataSegments m ∷ Names Memories n ∷ [])) (λ m e. told_bind look (instrs.MemoryInit memory segment) (found look Memories memory) (λ n. op (bulk 8) (Names DataSegments m ∷ Names Memories n ∷ [])) (λ n. (refl, refl, ap (λ (z : Option ℕ). z ∷ []) e)))))
  told (instrs.DataDrop segment) = told_either look (instrs.DataDrop segment) _ _ (told_either look (instrs.DataDrop segment) _ _ (told_found look (instrs.DataDrop segment) (look DataSegments segment) segment DataSegments refl (λ n. op (bulk 9) (Names DataSegments n ∷ [])) (λ n e. (refl, refl, ap (λ (z : Option ℕ). z ∷ []) e))))
  told (instrs.MemoryCopy src dst) = told_either look (instrs.MemoryCopy src dst) _ _ (told_either look (instrs.MemoryCopy src dst) _ _ (told_two look (instrs.MemoryCopy src dst) (bulk 10) Memories dst Memories src (λ m n. (refl, refl, refl))))
  told (instrs.MemoryFill memory) = told_either look (instrs.MemoryFill memory) _ _ (told_either look (instrs.MemoryFill memory) _ _ (told_one look (instrs.MemoryFill memory) (bulk 11) Memories memory (λ n. (refl, refl, refl))))
  told (instrs.AtomicNotify memory arg) = told_either look (instrs.AtomicNotify memory arg) _ _ (told_either look (instrs.AtomicNotify memory arg) _ _ (told_access look (instrs.AtomicNotify memory arg) (atomic 0) memory arg None (λ n. (refl, refl, refl))))
  told (instrs.AtomicWait memory arg true) = told_either look (instrs.AtomicWait memory arg true) _ _ (told_either look (instrs.AtomicWait memory arg true) _ _ (told_access look (instrs.AtomicWait memory arg true) (atomic 2) memory arg None (λ n. (refl, refl, refl))))
  told (instrs.AtomicWait memory arg false) = told_either look (instrs.AtomicWait memory arg false) _ _ (told_either look (instrs.AtomicWait memory arg false) _ _ (told_access look (instrs.AtomicWait memory arg false) (atomic 1) memory arg None (λ n. (refl, refl, refl))))
  told (instrs.AtomicRmw memory change width arg) = told_either look (instrs.AtomicRmw memory change width arg) _ _ (told_either look (instrs.AtomicRmw memory change width arg) _ _ (told_access look (instrs.AtomicRmw memory change width arg) (rmw_code change width) memory arg None (λ n. (rmw_runs change width, refl, refl))))
  told (instrs.Cmpxchg memory width arg) = told_either look (instrs.Cmpxchg memory width arg) _ _ (told_either look (instrs.Cmpxchg memory width arg) _ _ (told_access look (instrs.Cmpxchg memory width arg) (cmpxchg_code width) memory arg None (λ n. (cmpxchg_runs width, refl, refl))))
  told (instrs.RefNull ty) = told_either look (instrs.RefNull ty) _ _ (told_heap look (instrs.RefNull ty) (byte 0xd0) ty.heap_type (λ h. (refl, refl, refl)))
  told (instrs.RefTest ty) = told_either look (instrs.RefTest ty) _ _ (told_heap look (instrs.RefTest ty) (test_code ty.nullable) ty.heap_type (λ h. (test_runs ty.nullable, refl, refl)))
  told (instrs.RefCast ty) = told_either look (instrs.RefCast ty) _ _ (told_heap look (instrs.RefCast ty) (cast_code ty.nullable) ty.heap_type (λ h. (cast_runs ty.nullable, refl, refl)))
  told (instrs.StructNew ty) = told_either look (instrs.StructNew ty) _ _ (told_one look (instrs.StructNew ty) (object 0) Types ty (λ n. (refl, refl, refl)))
  told (instrs.StructNewDefault ty) = told_either look (instrs.StructNewDefault ty) _ _ (told_one look (instrs.StructNewDefault ty) (object 1) Types ty (λ n. (refl, refl, refl)))
  told (instrs.StructGet ty field) = told_either look (instrs.StructGet ty field) _ _ (told_counted look (instrs.StructGet ty field) (object 2) Types ty field (λ n. (refl, refl, refl)))
  told (instrs.StructGetS ty field) = told_either look (instrs.StructGetS ty field) _ _ (told_counted look (instrs.StructGetS ty field) (object 3) Types ty field (λ n. (refl, refl, refl)))
  told (instrs.StructGetU ty field) = told_either look (instrs.StructGetU ty field) _ _ (told_counted look (instrs.StructGetU ty field) (object 4) Types ty field (λ n. (refl, refl, refl)))
  told (instrs.StructSet ty field) = told_either look (instrs.StructSet ty field) _ _ (told_counted look (instrs.StructSet ty field) (object 5) Types ty field (λ n. (refl, refl, refl)))
  told (instrs.ArrayNew ty) = told_either look (instrs.ArrayNew ty) _ _ (told_one look (instrs.ArrayNew ty) (object 6) Types ty (λ n. (refl, refl, refl)))
  told (instrs.ArrayNewDefault ty) = told_either look (instrs.ArrayNewDefault ty) _ _ (told_one look (instrs.ArrayNewDefault ty) (object 7) Types ty (λ n. (refl, refl, refl)))
  told (instrs.ArrayNewFixed ty size) = told_either look (instrs.ArrayNewFixed ty size) _ _ (told_counted look (instrs.ArrayNewFixed ty size) (object 8) Types ty size (λ n. (refl, refl, refl)))
  told (instrs.ArrayNewData ty segment) = told_either look (instrs.ArrayNewData ty segment) _ _ (told_bind look (instrs.ArrayNewData ty segment) (found look Types ty) (λ m. found look DataSegments segment >>= λ n. op (object 9) (Names Types m ∷ Names DataSegments n ∷ [])) (λ m. told_found look (instrs.ArrayNewData ty segment) (look DataSegments segment) segment DataSegments refl (λ n. op (object 9) (Names Types m ∷ Names DataSegments n ∷ [])) (λ n e. (refl, refl, ap (λ (z : Option ℕ). z ∷ []) e))))
  told (instrs.ArrayNewElem ty elem) = told_either look (instrs.ArrayNewElem ty elem) _ _ (told_two look (instrs.ArrayNewElem ty elem) (object 10) Types ty ElementSegments elem (λ m n. (refl, refl, refl)))
  told (instrs.ArrayGet ty) = told_either look (instrs.ArrayGet ty) _ _ (told_one look (instrs.ArrayGet ty) (object 11) Types ty (λ n. (refl, refl, refl)))
  told (instrs.ArrayGetS ty) = told_either look (instrs.ArrayGetS ty) _ _ (told_one look (instrs.ArrayGetS ty) (object 12) Types ty (λ n. (refl, refl, refl)))
  told (instrs.ArrayGetU ty) = told_either look (instrs.ArrayGetU ty) _ _ (told_one look (instrs.ArrayGetU ty) (object 13) Types ty (λ n. (refl, refl, refl)))
  told (instrs.ArraySet ty) = told_either look (instrs.ArraySet ty) _ _ (told_one look (instrs.ArraySet ty) (object 14) Types ty (λ n. (refl, refl, refl)))
  told (instrs.ArrayFill ty) = told_either look (instrs.ArrayFill ty) _ _ (told_one look (instrs.ArrayFill ty) (object 16) Types ty (λ n. (refl, refl, refl)))
  told (instrs.ArrayCopy src dst) = told_either look (instrs.ArrayCopy src dst) _ _ (told_two look (instrs.ArrayCopy src dst) (object 17) Types dst Types src (λ m n. (refl, refl, refl)))
  told (instrs.ArrayInitData ty segment) = told_either look (instrs.ArrayInitData ty segment) _ _ (told_bind look (instrs.ArrayInitData ty segment) (found look Types ty) (λ m. found look DataSegments segment >>= λ n. op (object 18) (Names Types m ∷ Names DataSegments n ∷ [])) (λ m. told_found look (instrs.ArrayInitData ty segment) (look DataSegments segment) segment DataSegments refl (λ n. op (object 18) (Names Types m ∷ Names DataSegments n ∷ [])) (λ n e. (refl, refl, ap (λ (z : Option ℕ). z ∷ []) e))))
  told (instrs.ArrayInitElem ty elem) = told_either look (instrs.ArrayInitElem ty elem) _ _ (told_two look (instrs.ArrayInitElem ty elem) (object 19) Types ty ElementSegments elem (λ m n. (refl, refl, refl)))
  told (instrs.Select (Some ty)) = told_bind look (instrs.Select (Some ty)) (written_value (look Types) ty) (λ value. op (byte 0x1c) (ManyValues (value ∷ []) ∷ [])) (λ value. (refl, refl, refl))
