-- Lemmas: an instruction's operator is read as that instruction.
use Rattle.std.specs.Prelude.{ℕ, ◌≡◌, Bool, true, false, [], ◌∷◌, Option, Some, None, Ok, Err, if◌then◌else◌, refl}
use Rattle.std.proofs.Common.{ap, sym, subst}
use Rattle.std.proofs.lemmas.Bool.{lt-ltb}
use Rattle.wasm_operators.specs.Items.{Space, Types, Functions, Tables, Memories, Tags, Globals, ElementSegments, DataSegments, Locals, Names, Number, Byte, Heap, Access}
use Rattle.wasm_operators.specs.declared.op_code.OpCode.{OpCode}
use Rattle.wasm_operators.specs.Operators.{Seen}
use Rattle.walrus_forms.specs.declared.value.HeapType.{HeapType}
use Rattle.walrus_forms.specs.declared.value.HeapType.TheVariants.{Abstract, Shared, Concrete, Exact}
use Rattle.walrus_forms.specs.declared.value.AbstractHeapType.{AbstractHeapType}
use Rattle.walrus_forms.specs.declared.value.AbstractHeapType.TheVariants as kinds
use Rattle.walrus_instr.specs.declared.memory.MemArg.{MemArg}
use Rattle.walrus_instr.specs.declared.memory.ExtendedLoad.TheVariants as extends
use Rattle.walrus_instr.specs.declared.memory.LoadKind.{LoadKind}
use Rattle.walrus_instr.specs.declared.memory.LoadKind.TheVariants as loads
use Rattle.walrus_instr.specs.declared.memory.StoreKind.{StoreKind}
use Rattle.walrus_instr.specs.declared.memory.StoreKind.TheVariants as stores
use Rattle.walrus_instr.specs.declared.memory.LoadSimdKind.{LoadSimdKind}
use Rattle.walrus_instr.specs.declared.memory.LoadSimdKind.TheVariants as vectors
use Rattle.walrus_instr.specs.declared.memory.AtomicOp.{AtomicOp}
use Rattle.walrus_instr.specs.declared.memory.AtomicOp.TheVariants as changes
use Rattle.walrus_instr.specs.declared.memory.AtomicWidth.{AtomicWidth}
use Rattle.walrus_instr.specs.declared.memory.AtomicWidth.TheVariants as widths
use Rattle.walrus_codes.specs.Access.{byte_loads, atomic_loads, byte_stores, atomic_stores, vector_accesses, lane_accesses, atomic_changes, load_code, store_code, simd_code, simd_lane, simd_at, rmw_code, cmpxchg_code}
use Rattle.wasm_ref_types.specs.declared.heap.HeapType.{HeapType as WrittenHeap}
use Rattle.wasm_ref_types.specs.declared.heap.HeapType.TheVariants.{Concrete as WConcrete, Exact as WExact}
use Rattle.wasm_ref_types.specs.declared.index.UnpackedIndex.TheVariants.{Module}
use Rattle.walrus_instr.specs.declared.instr.Instr.{Instr}
use Rattle.walrus_instr.specs.declared.instr.Instr.TheVariants as instrs
use Rattle.walrus_codes.specs.Runs.{byte, object, bulk, vector, atomic}
use Rattle.walrus_pairing.specs.Looks.{Look, Or, ◌>>=◌, found}
use Rattle.walrus_pairing.specs.Types.{written_abstract, written_heap, read_abstract, read_heap}
use Rattle.walrus_pairing.specs.Write.{seen_of, op, one, two, counted, access, heap, log_of, access_of, test_code, cast_code, variable, memory_op, object_op}
use Rattle.walrus_pairing.specs.Read.{instr_at, arg_of, to, heap_at, access_at}
use Rattle.walrus_pairing.specs.InstrLaws.{Undoes, IsAligned, IsPlain}

-- what was given is what is given
pub some_is : (s t : Seen) → op s.code s.items ≡ Ok (Some t) → s ≡ t
some_is s t e = cc

abbrev pub good : {A : Type 0} → A → Or A
good x = Ok x

pub ok_is : {A : Type 0} (x y : A) → good x ≡ good y → x ≡ y
ok_is x y e = cc

test_at : (b : Bool) (h : HeapType) → heap_at (test_code b) h ≡ Some (instrs.RefTest (to b h))
test_at true h = refl
test_at false h = refl

cast_at : (b : Bool) (h : HeapType) → heap_at (cast_code b) h ≡ Some (instrs.RefCast (to b h))
cast_at true h = refl
cast_at false h = refl

abstract_again : (kind : AbstractHeapType) → read_abstract (written_abstract kind) ≡ Ok kind
abstract_again kinds.Func = refl
abstract_again kinds.Extern = refl
abstract_again kinds.Any = refl
abstract_again kinds.None = refl
abstract_again kinds.NoExtern = refl
abstract_again kinds.NoFunc = refl
abstract_again kinds.Eq = refl
abstract_again kinds.Struct = refl
abstract_again kinds.Array = refl
abstract_again kinds.I31 = refl
abstract_again kinds.Exn = refl
abstract_again kinds.NoExn = refl

arg_again : (memory : ℕ) (arg : MemArg) → IsAligned arg → arg_of (access_of memory arg) ≡ Ok arg
arg_again memory arg h = rw (lt-ltb (log_of arg.align) 32 h.1) (ap (λ (n : ℕ). Ok (record { align = n; offset = arg.offset })) h.0)

abbrev wait_code : Bool → OpCode
wait_code sixty_four = atomic (if sixty_four then 2 else 1)

module _ (memory : ℕ) (arg : MemArg) where
  load_again : (kind : LoadKind) → access_at (load_code kind) memory arg ≡ Some (instrs.Load memory kind arg)
  unfolding byte_loads atomic_loads
  load_again (loads.I32 false) = refl
  load_again (loads.I64 false) = refl
  load_again loads.F32 = refl
  load_again loads.F64 = refl
  load_again (loads.I32_8 extends.SignExtend) = refl
  load_again (loads.I32_8 extends.ZeroExtend) = refl
  load_again (loads.I32_16 extends.SignExtend) = refl
  load_again (loads.I32_16 extends.ZeroExtend) = refl
  load_again (loads.I64_8 extends.SignExtend) = refl
  load_again (loads.I64_8 extends.ZeroExtend) = refl
  load_again (loads.I64_16 extends.SignExtend) = refl
  load_again (loads.I64_16 extends.ZeroExtend) = refl
  load_again (loads.I64_32 extends.SignExtend) = refl
  load_again (loads.I64_32 extends.ZeroExtend) = refl
  load_again loads.V128 = refl
  load_again (loads.I32 true) = refl
  load_again (loads.I64 true) = refl
  load_again (loads.I32_8 extends.ZeroExtendAtomic) = refl
  load_again (loads.I32_16 extends.ZeroExtendAtomic) = refl
  load_again (loads.I64_8 extends.ZeroExtendAtomic) = refl
  load_again (loads.I64_16 extends.ZeroExtendAtomic) = refl
  load_again (loads.I64_32 extends.ZeroExtendAtomic) = refl

  store_again : (kind : StoreKind) → access_at (store_code kind) memory arg ≡ Some (instrs.Store memory kind arg)
  unfolding byte_loads atomic_loads byte_stores atomic_stores
  store_again (stores.I32 false) = refl
  store_again (stores.I64 false) = refl
  store_again stores.F32 = refl
  store_again stores.F64 = refl
  store_again (stores.I32_8 false) = refl
  store_again (stores.I32_16 false) = refl
  store_again (stores.I64_8 false) = refl
  store_again (stores.I64_16 false) = refl
  store_again (stores.I64_32 false) = refl
  store_again stores.V128 = refl
  store_again (stores.I32 true) = refl
  store_again (stores.I64 true) = refl
  store_again (stores.I32_8 true) = refl
  store_again (stores.I32_16 true) = refl
  store_again (stores.I64_8 true) = refl
  store_again (stores.I64_16 true) = refl
  store_again (stores.I64_32 true) = refl

  notify_again : access_at (atomic 0) memory arg ≡ Some (instrs.AtomicNotify memory arg)
  unfolding byte_loads atomic_loads byte_stores atomic_stores vector_accesses atomic_changes
  notify_again = refl

  wait_again : (sixty_four : Bool) → access_at (wait_code sixty_four) memory arg ≡ Some (instrs.AtomicWait memory arg sixty_four)
  unfolding byte_loads atomic_loads byte_stores atomic_stores vector_accesses atomic_changes
  wait_again true = refl
  wait_again false = refl

  rmw_again : (change : AtomicOp) (width : AtomicWidth) → access_at (rmw_code change width) memory arg ≡ Some (instrs.AtomicRmw memory change width arg)
  unfolding byte_loads atomic_loads byte_stores atomic_stores vector_accesses atomic_changes
  rmw_again changes.Add widths.I32 = refl
  rmw_again changes.Add widths.I64 = refl
  rmw_again changes.Add widths.I32_8 = refl
  rmw_again changes.Add widths.I32_16 = refl
  rmw_again changes.Add widths.I64_8 = refl
  rmw_again changes.Add widths.I64_16 = refl
  rmw_again changes.Add widths.I64_32 = refl
  rmw_again changes.Sub widths.I32 = refl
  rmw_again changes.Sub widths.I64 = refl
  rmw_again changes.Sub widths.I32_8 = refl
  rmw_again changes.Sub widths.I32_16 = refl
  rmw_again changes.Sub widths.I64_8 = refl
  rmw_again changes.Sub widths.I64_16 = refl
  rmw_again changes.Sub widths.I64_32 = refl
  rmw_again changes.And widths.I32 = refl
  rmw_again changes.And widths.I64 = refl
  rmw_again changes.And widths.I32_8 = refl
  rmw_again changes.And widths.I32_16 = refl
  rmw_again changes.And widths.I64_8 = refl
  rmw_again changes.And widths.I64_16 = refl
  rmw_again changes.And widths.I64_32 = refl
  rmw_again changes.Or widths.I32 = refl
  rmw_again changes.Or widths.I64 = refl
  rmw_again changes.Or widths.I32_8 = refl
  rmw_again changes.Or widths.I32_16 = refl
  rmw_again changes.Or widths.I64_8 = refl
  rmw_again changes.Or widths.I64_16 = refl
  rmw_again changes.Or widths.I64_32 = refl
  rmw_again changes.Xor widths.I32 = refl
  rmw_again changes.Xor widths.I64 = refl
  rmw_again changes.Xor widths.I32_8 = refl
  rmw_again changes.Xor widths.I32_16 = refl
  rmw_again changes.Xor widths.I64_8 = refl
  rmw_again changes.Xor widths.I64_16 = refl
  rmw_again changes.Xor widths.I64_32 = refl
  rmw_again changes.Xchg widths.I32 = refl
  rmw_again changes.Xchg widths.I64 = refl
  rmw_again changes.Xchg widths.I32_8 = refl
  rmw_again changes.Xchg widths.I32_16 = refl
  rmw_again changes.Xchg widths.I64_8 = refl
  rmw_again changes.Xchg widths.I64_16 = refl
  rmw_again changes.Xchg widths.I64_32 = refl

  cmpxchg_again : (width : AtomicWidth) → access_at (cmpxchg_code width) memory arg ≡ Some (instrs.Cmpxchg memory width arg)
  unfolding byte_loads atomic_loads byte_stores atomic_stores vector_accesses atomic_changes
  cmpxchg_again widths.I32 = refl
  cmpxchg_again widths.I64 = refl
  cmpxchg_again widths.I32_8 = refl
  cmpxchg_again widths.I32_16 = refl
  cmpxchg_again widths.I64_8 = refl
  cmpxchg_again widths.I64_16 = refl
  cmpxchg_again widths.I64_32 = refl

module _ (there back : Look) (undoes : Undoes there back) where
  -- a name that was found
  found_is : {A : Type 0} (space : Space) (x : ℕ) (make : ℕ → Or A) (a : A) → (found there space x >>= make) ≡ Ok a
      → (n : ℕ) × (there space x ≡ Some n) × (make n ≡ Ok a)
  found_is space x make a e = at (there space x) refl
    where
      at : (o : Option ℕ) → there space x ≡ o → (n : ℕ) × (there space x ≡ Some n) × (make n ≡ Ok a)
      at (Some n) h = (n, h, rw h at e)
      at None h = absurd (let w = (rw h at e) in cc)

  abbrev pub Back : Seen → Instr → Type 0
  Back s i = instr_at back s ≡ Ok (Some i)

  one_back : (code : OpCode) (space : Space) (x : ℕ) (i : Instr) (s : Seen)
      → ((n : ℕ) → back space n ≡ Some x → Back (seen_of code (Names space n ∷ [])) i) → one there code space x ≡ Ok (Some s) → Back s i
  one_back code space x i s each e =
      let h = found_is space x (λ n. op code (Names space n ∷ [])) (Some s) e in
      subst (λ t. Back t i) (some_is (seen_of code (Names space h.0 ∷ [])) s h.2) (each h.0 (undoes space x h.0 h.1))

  counted_back : (code : OpCode) (space : Space) (x count : ℕ) (i : Instr) (s : Seen)
      → ((n : ℕ) → back space n ≡ Some x → Back (seen_of code (Names space n ∷ Number count ∷ [])) i) → counted there code space x count ≡ Ok (Some s) → Back s i
  counted_back code space x count i s each e =
      let h = found_is space x (λ n. op code (Names space n ∷ Number count ∷ [])) (Some s) e in
      subst (λ t. Back t i) (some_is (seen_of code (Names space h.0 ∷ Number count ∷ [])) s h.2) (each h.0 (undoes space x h.0 h.1))

  two_back : (code : OpCode) (first : Space) (x : ℕ) (second : Space) (y : ℕ) (i : Instr) (s : Seen)
      → ((m n : ℕ) → back first m ≡ Some x → back second n ≡ Some y → Back (seen_of code (Names first m ∷ Names second n ∷ [])) i)
      → two there code first x second y ≡ Ok (Some s) → Back s i
  two_back code first x second y i s each e =
      let h = found_is first x (λ m. found there second y >>= λ n. op code (Names first m ∷ Names second n ∷ [])) (Some s) e in
      let g = found_is second y (λ n. op code (Names first h.0 ∷ Names second n ∷ [])) (Some s) h.2 in
      subst (λ t. Back t i) (some_is (seen_of code (Names first h.0 ∷ Names second g.0 ∷ [])) s g.2) (each h.0 g.0 (undoes first x h.0 h.1) (undoes second y g.0 g.1))

  pub variable_back : (i : Instr) (s : Seen) → variable there i ≡ Ok (Some s) → Back s i
  variable_back (instrs.Throw tag) s e = one_back (byte 0x08) Tags tag (instrs.Throw tag) s (λ n h. rw h refl) e
  variable_back (instrs.Call func) s e = one_back (byte 0x10) Functions func (instrs.Call func) s (λ n h. rw h refl) e
  variable_back (instrs.CallIndirect ty table) s e = two_back (byte 0x11) Types ty Tables table (instrs.CallIndirect ty table) s (λ m n g h. rw (g, h) refl) e
  variable_back (instrs.ReturnCall func) s e = one_back (byte 0x12) Functions func (instrs.ReturnCall func) s (λ n h. rw h refl) e
  variable_back (instrs.ReturnCallIndirect ty table) s e = two_back (byte 0x13) Types ty Tables table (instrs.ReturnCallIndirect ty table) s (λ m n g h. rw (g, h) refl) e
  variable_back (instrs.CallRef ty) s e = one_back (byte 0x14) Types ty (instrs.CallRef ty) s (λ n h. rw h refl) e
  variable_back (instrs.ReturnCallRef ty) s e = one_back (byte 0x15) Types ty (instrs.ReturnCallRef ty) s (λ n h. rw h refl) e
  variable_back (instrs.LocalGet local) s e = one_back (byte 0x20) Locals local (instrs.LocalGet local) s (λ n h. rw h refl) e
  variable_back (instrs.LocalSet local) s e = one_back (byte 0x21) Locals local (instrs.LocalSet local) s (λ n h. rw h refl) e
  variable_back (instrs.LocalTee local) s e = one_back (byte 0x22) Locals local (instrs.LocalTee local) s (λ n h. rw h refl) e
  variable_back (instrs.GlobalGet global) s e = one_back (byte 0x23) Globals global (instrs.GlobalGet global) s (λ n h. rw h refl) e
  variable_back (instrs.GlobalSet global) s e = one_back (byte 0x24) Globals global (instrs.GlobalSet global) s (λ n h. rw h refl) e
  variable_back (instrs.TableGet table) s e = one_back (byte 0x25) Tables table (instrs.TableGet table) s (λ n h. rw h refl) e
  variable_back (instrs.TableSet table) s e = one_back (byte 0x26) Tables table (instrs.TableSet table) s (λ n h. rw h refl) e
  variable_back (instrs.RefFunc func) s e = one_back (byte 0xd2) Functions func (instrs.RefFunc func) s (λ n h. rw h refl) e
  variable_back (instrs.TableInit table elem) s e = two_back (bulk 12) ElementSegments elem Tables table (instrs.TableInit table elem) s (λ m n g h. rw (g, h) refl) e
  variable_back (instrs.ElemDrop elem) s e = one_back (bulk 13) ElementSegments elem (instrs.ElemDrop elem) s (λ n h. rw h refl) e
  variable_back (instrs.TableCopy src dst) s e = two_back (bulk 14) Tables dst Tables src (instrs.TableCopy src dst) s (λ m n g h. rw (g, h) refl) e
  variable_back (instrs.TableGrow table) s e = one_back (bulk 15) Tables table (instrs.TableGrow table) s (λ n h. rw h refl) e
  variable_back (instrs.TableSize table) s e = one_back (bulk 16) Tables table (instrs.TableSize table) s (λ n h. rw h refl) e
  variable_back (instrs.TableFill table) s e = one_back (bulk 17) Tables table (instrs.TableFill table) s (λ n h. rw h refl) e
  variable_back _ s e = absurd cc

  pub read_again : (ty : HeapType) (h : WrittenHeap) → written_heap (there Types) ty ≡ Ok h → read_heap (back Types) h ≡ Ok ty
  read_again (Abstract kind) h e = subst (λ w. read_heap (back Types) w ≡ Ok (Abstract kind)) (ok_is _ h e) (rw (abstract_again kind) refl)
  read_again (Shared kind) h e = subst (λ w. read_heap (back Types) w ≡ Ok (Shared kind)) (ok_is _ h e) (rw (abstract_again kind) refl)
  read_again (Concrete id) h e =
      let g = found_is Types id (λ n. Ok (WConcrete (Module n))) h e in
      subst (λ w. read_heap (back Types) w ≡ Ok (Concrete id)) (ok_is _ h g.2) (rw (undoes Types id g.0 g.1) refl)
  read_again (Exact id) h e =
      let g = found_is Types id (λ n. Ok (WExact (Module n))) h e in
      subst (λ w. read_heap (back Types) w ≡ Ok (Exact id)) (ok_is _ h g.2) (rw (undoes Types id g.0 g.1) refl)

  heap_back : (code : OpCode) (ty : HeapType) (i : Instr) (s : Seen) → heap_at code ty ≡ Some i → heap there code ty ≡ Ok (Some s) → Back s i
  heap_back code ty i s pick e = at (written_heap (there Types) ty) refl
    where
      at : (o : Or WrittenHeap) → written_heap (there Types) ty ≡ o → Back s i
      at (Ok h) w = subst (λ t. Back t i) (some_is (seen_of code (Heap h ∷ [])) s (rw w at e)) (rw (read_again ty h w, pick) refl)
      at (Err x) w = absurd (let v = (rw w at e) in cc)

  -- an access without a lane
  access_back : (code : OpCode) (memory : ℕ) (arg : MemArg) (i : Instr) (s : Seen) → IsAligned arg → access_at code memory arg ≡ Some i
      → access there code memory arg None ≡ Ok (Some s) → Back s i
  access_back code memory arg i s aligned pick e =
      let h = found_is Memories memory (λ n. op code (Access (access_of n arg) ∷ [])) (Some s) e in
      subst (λ t. Back t i) (some_is (seen_of code (Access (access_of h.0 arg) ∷ [])) s h.2) (rw (undoes Memories memory h.0 h.1, arg_again h.0 arg aligned, pick) refl)

  -- and with one
  lane_back : (code : OpCode) (memory : ℕ) (arg : MemArg) (lane : ℕ) (kind : LoadSimdKind) (s : Seen) → IsAligned arg → simd_at code (Some lane) ≡ Some kind
      → access there code memory arg (Some lane) ≡ Ok (Some s) → Back s (instrs.LoadSimd memory kind arg)
  lane_back code memory arg lane kind s aligned pick e =
      let h = found_is Memories memory (λ n. op code (Access (access_of n arg) ∷ Byte lane ∷ [])) (Some s) e in
      subst (λ t. Back t (instrs.LoadSimd memory kind arg)) (some_is (seen_of code (Access (access_of h.0 arg) ∷ Byte lane ∷ [])) s h.2) (rw (undoes Memories memory h.0 h.1, arg_again h.0 arg aligned, pick) refl)

  simd_back : (memory : ℕ) (arg : MemArg) (kind : LoadSimdKind) (s : Seen) → IsAligned arg → access there (simd_code kind) memory arg (simd_lane kind) ≡ Ok (Some s)
      → Back s (instrs.LoadSimd memory kind arg)
  unfolding vector_accesses lane_accesses byte_loads atomic_loads byte_stores atomic_stores
  simd_back memory arg vectors.V128Load8x8S s aligned e = access_back (vector 1) memory arg (instrs.LoadSimd memory vectors.V128Load8x8S arg) s aligned refl e
  simd_back memory arg vectors.V128Load8x8U s aligned e = access_back (vector 2) memory arg (instrs.LoadSimd memory vectors.V128Load8x8U arg) s aligned refl e
  simd_back memory arg vectors.V128Load16x4S s aligned e = access_back (vector 3) memory arg (instrs.LoadSimd memory vectors.V128Load16x4S arg) s aligned refl e
  simd_back memory arg vectors.V128Load16x4U s aligned e = access_back (vector 4) memory arg (instrs.LoadSimd memory vectors.V128Load16x4U arg) s aligned refl e
  simd_back memory arg vectors.V128Load32x2S s aligned e = access_back (vector 5) memory arg (instrs.LoadSimd memory vectors.V128Load32x2S arg) s aligned refl e
  simd_back memory arg vectors.V128Load32x2U s aligned e = access_back (vector 6) memory arg (instrs.LoadSimd memory vectors.V128Load32x2U arg) s aligned refl e
  simd_back memory arg vectors.Splat8 s aligned e = access_back (vector 7) memory arg (instrs.LoadSimd memory vectors.Splat8 arg) s aligned refl e
  simd_back memory arg vectors.Splat16 s aligned e = access_back (vector 8) memory arg (instrs.LoadSimd memory vectors.Splat16 arg) s aligned refl e
  simd_back memory arg vectors.Splat32 s aligned e = access_back (vector 9) memory arg (instrs.LoadSimd memory vectors.Splat32 arg) s aligned refl e
  simd_back memory arg vectors.Splat64 s aligned e = access_back (vector 10) memory arg (instrs.LoadSimd memory vectors.Splat64 arg) s aligned refl e
  simd_back memory arg vectors.V128Load32Zero s aligned e = access_back (vector 92) memory arg (instrs.LoadSimd memory vectors.V128Load32Zero arg) s aligned refl e
  simd_back memory arg vectors.V128Load64Zero s aligned e = access_back (vector 93) memory arg (instrs.LoadSimd memory vectors.V128Load64Zero arg) s aligned refl e
  simd_back memory arg (vectors.V128Load8Lane lane) s aligned e = lane_back (vector 84) memory arg lane (vectors.V128Load8Lane lane) s aligned refl e
  simd_back memory arg (vectors.V128Load16Lane lane) s aligned e = lane_back (vector 85) memory arg lane (vectors.V128Load16Lane lane) s aligned refl e
  simd_back memory arg (vectors.V128Load32Lane lane) s aligned e = lane_back (vector 86) memory arg lane (vectors.V128Load32Lane lane) s aligned refl e
  simd_back memory arg (vectors.V128Load64Lane lane) s aligned e = lane_back (vector 87) memory arg lane (vectors.V128Load64Lane lane) s aligned refl e
  simd_back memory arg (vectors.V128Store8Lane lane) s aligned e = lane_back (vector 88) memory arg lane (vectors.V128Store8Lane lane) s aligned refl e
  simd_back memory arg (vectors.V128Store16Lane lane) s aligned e = lane_back (vector 89) memory arg lane (vectors.V128Store16Lane lane) s aligned refl e
  simd_back memory arg (vectors.V128Store32Lane lane) s aligned e = lane_back (vector 90) memory arg lane (vectors.V128Store32Lane lane) s aligned refl e
  simd_back memory arg (vectors.V128Store64Lane lane) s aligned e = lane_back (vector 91) memory arg lane (vectors.V128Store64Lane lane) s aligned refl e

  pub object_back : (i : Instr) (s : Seen) → IsPlain i → object_op there i ≡ Ok (Some s) → Back s i
  object_back (instrs.StructNew ty) s plain e = one_back (object 0) Types ty (instrs.StructNew ty) s (λ n h. rw h refl) e
  object_back (instrs.StructNewDefault ty) s plain e = one_back (object 1) Types ty (instrs.StructNewDefault ty) s (λ n h. rw h refl) e
  object_back (instrs.StructGet ty field) s plain e = counted_back (object 2) Types ty field (instrs.StructGet ty field) s (λ n h. rw h refl) e
  object_back (instrs.StructGetS ty field) s plain e = counted_back (object 3) Types ty field (instrs.StructGetS ty field) s (λ n h. rw h refl) e
  object_back (instrs.StructGetU ty field) s plain e = counted_back (object 4) Types ty field (instrs.StructGetU ty field) s (λ n h. rw h refl) e
  object_back (instrs.StructSet ty field) s plain e = counted_back (object 5) Types ty field (instrs.StructSet ty field) s (λ n h. rw h refl) e
  object_back (instrs.ArrayNew ty) s plain e = one_back (object 6) Types ty (instrs.ArrayNew ty) s (λ n h. rw h refl) e
  object_back (instrs.ArrayNewDefault ty) s plain e = one_back (object 7) Types ty (instrs.ArrayNewDefault ty) s (λ n h. rw h refl) e
  object_back (instrs.ArrayNewFixed ty size) s plain e = counted_back (object 8) Types ty size (instrs.ArrayNewFixed ty size) s (λ n h. rw h refl) e
  object_back (instrs.ArrayNewData ty segment) s plain e = two_back (object 9) Types ty DataSegments segment (instrs.ArrayNewData ty segment) s (λ m n g h. rw (g, h) refl) e
  object_back (instrs.ArrayNewElem ty elem) s plain e = two_back (object 10) Types ty ElementSegments elem (instrs.ArrayNewElem ty elem) s (λ m n g h. rw (g, h) refl) e
  object_back (instrs.ArrayGet ty) s plain e = one_back (object 11) Types ty (instrs.ArrayGet ty) s (λ n h. rw h refl) e
  object_back (instrs.ArrayGetS ty) s plain e = one_back (object 12) Types ty (instrs.ArrayGetS ty) s (λ n h. rw h refl) e
  object_back (instrs.ArrayGetU ty) s plain e = one_back (object 13) Types ty (instrs.ArrayGetU ty) s (λ n h. rw h refl) e
  object_back (instrs.ArraySet ty) s plain e = one_back (object 14) Types ty (instrs.ArraySet ty) s (λ n h. rw h refl) e
  object_back (instrs.ArrayFill ty) s plain e = one_back (object 16) Types ty (instrs.ArrayFill ty) s (λ n h. rw h refl) e
  object_back (instrs.ArrayCopy src dst) s plain e = two_back (object 17) Types dst Types src (instrs.ArrayCopy src dst) s (λ m n g h. rw (g, h) refl) e
  object_back (instrs.ArrayInitData ty segment) s plain e = two_back (object 18) Types ty DataSegments segment (instrs.ArrayInitData ty segment) s (λ m n g h. rw (g, h) refl) e
  object_back (instrs.ArrayInitElem ty elem) s plain e = two_back (object 19) Types ty ElementSegments elem (instrs.ArrayInitElem ty elem) s (λ m n g h. rw (g, h) refl) e
  object_back (instrs.RefNull ty) s plain e =
      heap_back (byte 0xd0) ty.heap_type (instrs.RefNull ty) s (ap (λ (b : Bool). Some (instrs.RefNull (record { nullable = b; heap_type = ty.heap_type }))) (sym plain)) e
  object_back (instrs.RefTest ty) s plain e = heap_back (test_code ty.nullable) ty.heap_type (instrs.RefTest ty) s (test_at ty.nullable ty.heap_type) e
  object_back (instrs.RefCast ty) s plain e = heap_back (cast_code ty.nullable) ty.heap_type (instrs.RefCast ty) s (cast_at ty.nullable ty.heap_type) e
  object_back _ s plain e = absurd cc

  pub memory_back : (i : Instr) (s : Seen) → IsPlain i → memory_op there i ≡ Ok (Some s) → Back s i
  memory_back (instrs.MemorySize memory) s plain e = one_back (byte 0x3f) Memories memory (instrs.MemorySize memory) s (λ n h. rw h refl) e
  memory_back (instrs.MemoryGrow memory) s plain e = one_back (byte 0x40) Memories memory (instrs.MemoryGrow memory) s (λ n h. rw h refl) e
  memory_back (instrs.MemoryInit memory segment) s plain e = two_back (bulk 8) DataSegments segment Memories memory (instrs.MemoryInit memory segment) s (λ m n g h. rw (g, h) refl) e
  memory_back (instrs.DataDrop segment) s plain e = one_back (bulk 9) DataSegments segment (instrs.DataDrop segment) s (λ n h. rw h refl) e
  memory_back (instrs.MemoryCopy src dst) s plain e = two_back (bulk 10) Memories dst Memories src (instrs.MemoryCopy src dst) s (λ m n g h. rw (g, h) refl) e
  memory_back (instrs.MemoryFill memory) s plain e = one_back (bulk 11) Memories memory (instrs.MemoryFill memory) s (λ n h. rw h refl) e
  memory_back (instrs.Load memory kind arg) s plain e = access_back (load_code kind) memory arg (instrs.Load memory kind arg) s plain (load_again memory arg kind) e
  memory_back (instrs.Store memory kind arg) s plain e = access_back (store_code kind) memory arg (instrs.Store memory kind arg) s plain (store_again memory arg kind) e
  memory_back (instrs.LoadSimd memory kind arg) s plain e = simd_back memory arg kind s plain e
  memory_back (instrs.AtomicNotify memory arg) s plain e = access_back (atomic 0) memory arg (instrs.AtomicNotify memory arg) s plain (notify_again memory arg) e
  memory_back (instrs.AtomicWait memory arg sixty_four) s plain e = access_back (wait_code sixty_four) memory arg (instrs.AtomicWait memory arg sixty_four) s plain (wait_again memory arg sixty_four) e
  memory_back (instrs.AtomicRmw memory change width arg) s plain e = access_back (rmw_code change width) memory arg (instrs.AtomicRmw memory change width arg) s plain (rmw_again memory arg change width) e
  memory_back (instrs.Cmpxchg memory width arg) s plain e = access_back (cmpxchg_code width) memory arg (instrs.Cmpxchg memory width arg) s plain (cmpxchg_again memory arg width) e
  memory_back _ s plain e = absurd cc
