-- Lemmas: no operator that opens no block is read as a legacy `try`.
use Rattle.std.proofs.Common.{ℕ, zero, suc, ◌≡◌, Bool, true, false, List, [], ◌∷◌, length, Option, Some, None, Ok, Err, refl, sym, ap, ◌∙◌}
use Rattle.std.specs.Prelude.{◌+◌, ◌-◌, ◌==◌, ◌&&◌, ◌||◌, nat_le, nat_lt, slice_get, if◌then◌else◌}
use Rattle.std.specs.Int.{w128, from_le_bytes}
use Rattle.std.specs.List.{list_any}
use Rattle.std.specs.Option.{option_map}
use Rattle.std.proofs.lemmas.Bool.{false≢true}
use Rattle.walrus_module_env.specs.walrus_body_parser.wasm_operators.wasm_ref_types.declared.value.ValType.{ValType as WrittenValue}
use Rattle.walrus_module_env.specs.walrus_body_parser.wasm_operators.declared.memory_access.MemoryAccess.{MemoryAccess}
use Rattle.walrus_module_env.specs.walrus_body_parser.wasm_operators.Items.{Space, Types, Functions, Tables, Memories, Tags, Globals, ElementSegments, DataSegments, Locals, Labels, Item, Names, Number, S32, S64, Bits, Byte, Bytes, Heap, Access, ManyValues}
use Rattle.walrus_module_env.specs.walrus_body_parser.wasm_operators.declared.op_code.OpCode.{OpCode}
use Rattle.walrus_module_env.specs.walrus_body_parser.wasm_operators.Operators.{Seen}
use Rattle.walrus_forms.specs.declared.value.HeapType.{HeapType}
use Rattle.walrus_module_env.specs.walrus_body_parser.walrus_body_stack.walrus_instr.declared.instr.Instr.{Instr}
use Rattle.walrus_module_env.specs.walrus_body_parser.walrus_body_stack.walrus_instr.declared.instr.Instr.TheVariants as instrs
use Rattle.walrus_module_env.specs.walrus_body_parser.walrus_body_stack.walrus_instr.declared.instr.Value.TheVariants as constants
use Rattle.walrus_module_env.specs.walrus_body_parser.walrus_body_stack.walrus_instr.declared.memory.MemArg.{MemArg}
use Rattle.walrus_module_env.specs.walrus_body_parser.walrus_body_rules.walrus_pairing.walrus_codes.Runs.{Run, in_runs}
use Rattle.walrus_module_env.specs.walrus_body_parser.walrus_body_rules.walrus_pairing.walrus_codes.Unary.{unary_at}
use Rattle.walrus_module_env.specs.walrus_body_parser.walrus_body_rules.walrus_pairing.walrus_codes.Binary.{binary_at}
use Rattle.walrus_module_env.specs.walrus_body_parser.walrus_body_rules.walrus_pairing.walrus_codes.Ternary.{ternary_at}
use Rattle.walrus_module_env.specs.walrus_body_parser.walrus_body_rules.walrus_pairing.walrus_codes.Access.{load_at, store_at, simd_at, rmw_at, cmpxchg_at}
use Rattle.walrus_module_env.specs.walrus_body_parser.walrus_body_rules.walrus_pairing.declared.error.PairError.TheVariants as errors
use Rattle.walrus_module_env.specs.walrus_body_parser.walrus_body_rules.walrus_pairing.Looks.{Look, Or, ◌>>=◌, found}
use Rattle.walrus_module_env.specs.walrus_body_parser.walrus_body_rules.walrus_pairing.Types.{read_heap, read_value, named}
use Rattle.walrus_module_env.specs.walrus_body_parser.walrus_body_rules.walrus_pairing.Read.{at, of_bytes, of_objects, of_bulks, first, bare_at, numeric_at, no_immediates_at, byte_at, run_at, bits_at, name_at, names_at, counted_at, to, heap_at, arg_of, wait_at, simd_access, access_at, select_at, single_at, pair_at, of_items, instr_at}
use Rattle.walrus_module_env.specs.walrus_handler_types.walrus_handlers.Gathering.{is_try}

-- whether there is one, and it is a `try`
abbrev pub gives_try : Option Instr → Bool
gives_try None = false
gives_try (Some i) = is_try i

pub neither : (a b : Bool) → (a || b) ≡ false → (a ≡ false) × (b ≡ false)
neither true b e = absurd (false≢true (sym e))
neither false b e = (refl, e)

pub both : (a b : Bool) → a ≡ false → b ≡ false → (a || b) ≡ false
both true b e f = e
both false b e f = f

-- ---- choices

if_none : (c : Bool) (x y : Option Instr) → gives_try x ≡ false → gives_try y ≡ false → gives_try (if c then x else y) ≡ false
if_none true x y h g = h
if_none false x y h g = g

first_none : (x y : Option Instr) → gives_try x ≡ false → gives_try y ≡ false → gives_try (first x y) ≡ false
first_none (Some i) y h g = h
first_none None y h g = g

map_none : {A : Type 0} (f : A → Instr) → ((x : A) → is_try (f x) ≡ false) → (o : Option A) → gives_try (option_map f o) ≡ false
map_none f h None = refl
map_none f h (Some x) = h x

-- ---- rows

at_none : (is : List Instr) (n : ℕ) → list_any is_try is ≡ false → gives_try (slice_get is n) ≡ false
at_none [] n h = refl
at_none (i ∷ is) zero h = (neither (is_try i) (list_any is_try is) h).0
at_none (i ∷ is) (suc n) h = at_none is n (neither (is_try i) (list_any is_try is) h).1

abbrev pub rows_try : List (Run Instr) → Bool
rows_try [] = false
rows_try (r ∷ rs) = list_any is_try r.ops || rows_try rs

rows_none : (rows : List (Run Instr)) (n : ℕ) → rows_try rows ≡ false → gives_try (in_runs rows n) ≡ false
rows_none [] n h = refl
rows_none (r ∷ rs) n h =
    let p = neither (list_any is_try r.ops) (rows_try rs) h in
    if_none (nat_le r.first n && nat_lt n (r.first + length r.ops)) (slice_get r.ops (n - r.first)) (in_runs rs n) (at_none r.ops (n - r.first) p.0) (rows_none rs n p.1)

module _ (code : OpCode) where
  prefix_none : (p : ℕ) (rows : List (Run Instr)) (other : Option Instr) → rows_try rows ≡ false → gives_try other ≡ false
      → gives_try (if code.prefix == p then in_runs rows code.number else other) ≡ false
  prefix_none p rows other h g = if_none (code.prefix == p) (in_runs rows code.number) other (rows_none rows code.number h) g

  pub bytes_none : (rows : List (Run Instr)) → rows_try rows ≡ false → gives_try (of_bytes rows code) ≡ false
  bytes_none rows h = prefix_none 0 rows None h refl

  pub objects_none : (rows objects : List (Run Instr)) → rows_try rows ≡ false → rows_try objects ≡ false → gives_try (of_objects rows objects code) ≡ false
  objects_none rows objects h g = prefix_none 0xfb objects (of_bytes rows code) g (bytes_none rows h)

  bulks_none : (rows bulks : List (Run Instr)) → rows_try rows ≡ false → rows_try bulks ≡ false → gives_try (of_bulks rows bulks code) ≡ false
  bulks_none rows bulks h g = prefix_none 0xfc bulks (of_bytes rows code) g (bytes_none rows h)

  -- ---- without names

  bare_none : gives_try (bare_at code) ≡ false
  bare_none =
      prefix_none 0 (at 0x00 instrs.Unreachable ∷ at 0x0a instrs.ThrowRef ∷ at 0x0f instrs.Return ∷ at 0x1a instrs.Drop
      ∷ at 0x1b (instrs.Select None) ∷ at 0xd1 instrs.RefIsNull ∷ at 0xd3 instrs.RefEq ∷ at 0xd4 instrs.RefAsNonNull ∷ []) _ refl
      (prefix_none 0xfb (at 15 instrs.ArrayLen ∷ at 26 instrs.AnyConvertExtern ∷ at 27 instrs.ExternConvertAny
      ∷ at 28 instrs.RefI31 ∷ at 29 instrs.I31GetS ∷ at 30 instrs.I31GetU ∷ []) _ refl
      (prefix_none 0xfc (at 19 instrs.I64Add128 ∷ at 20 instrs.I64Sub128 ∷ []) _ refl
      (prefix_none 0xfd (at 14 instrs.I8x16Swizzle ∷ at 82 instrs.V128Bitselect ∷ []) None refl refl)))

  numeric_none : (lane : Option ℕ) → gives_try (numeric_at code lane) ≡ false
  numeric_none lane =
      first_none (option_map instrs.Unop (unary_at code lane)) (option_map instrs.Binop (binary_at code lane))
      (map_none instrs.Unop (λ x. refl) (unary_at code lane)) (map_none instrs.Binop (λ x. refl) (binary_at code lane))

  nothing_none : gives_try (no_immediates_at code) ≡ false
  nothing_none =
      first_none (bare_at code) (first (numeric_at code None) (option_map instrs.TernOp (ternary_at code))) bare_none
      (first_none (numeric_at code None) (option_map instrs.TernOp (ternary_at code)) (numeric_none None) (map_none instrs.TernOp (λ x. refl) (ternary_at code)))

  byte_none : (b : ℕ) → gives_try (byte_at code b) ≡ false
  byte_none b = if_none (code.prefix == 0xfe && code.number == 3 && b == 0) (Some instrs.AtomicFence) (numeric_at code (Some b)) refl (numeric_none (Some b))

  run_none : (bytes : List ℕ) → gives_try (run_at code bytes) ≡ false
  run_none bytes = prefix_none 0xfd (at 12 (instrs.Const (constants.V128 (from_le_bytes w128 bytes))) ∷ at 13 (instrs.I8x16Shuffle bytes) ∷ []) None refl refl

  bits_none : (size n : ℕ) → gives_try (bits_at code size n) ≡ false
  bits_none size n =
      if_none (size == 4) (of_bytes (at 0x43 (instrs.Const (constants.F32 n)) ∷ []) code) _ (bytes_none (at 0x43 (instrs.Const (constants.F32 n)) ∷ []) refl)
      (if_none (size == 8) (of_bytes (at 0x44 (instrs.Const (constants.F64 n)) ∷ []) code) None (bytes_none (at 0x44 (instrs.Const (constants.F64 n)) ∷ []) refl) refl)

  -- ---- of names

  name_none : (space : Space) (id : ℕ) → gives_try (name_at code space id) ≡ false
  name_none Types id =
      objects_none (at 0x14 (instrs.CallRef id) ∷ at 0x15 (instrs.ReturnCallRef id) ∷ [])
      (at 0 (instrs.StructNew id) ∷ at 1 (instrs.StructNewDefault id) ∷ at 6 (instrs.ArrayNew id) ∷ at 7 (instrs.ArrayNewDefault id)
      ∷ at 11 (instrs.ArrayGet id) ∷ at 12 (instrs.ArrayGetS id) ∷ at 13 (instrs.ArrayGetU id) ∷ at 14 (instrs.ArraySet id) ∷ at 16 (instrs.ArrayFill id) ∷ []) refl refl
  name_none Functions id = bytes_none (at 0x10 (instrs.Call id) ∷ at 0x12 (instrs.ReturnCall id) ∷ at 0xd2 (instrs.RefFunc id) ∷ []) refl
  name_none Tables id =
      bulks_none (at 0x25 (instrs.TableGet id) ∷ at 0x26 (instrs.TableSet id) ∷ []) (at 15 (instrs.TableGrow id) ∷ at 16 (instrs.TableSize id) ∷ at 17 (instrs.TableFill id) ∷ []) refl refl
  name_none Memories id = bulks_none (at 0x3f (instrs.MemorySize id) ∷ at 0x40 (instrs.MemoryGrow id) ∷ []) (at 11 (instrs.MemoryFill id) ∷ []) refl refl
  name_none Tags id = bytes_none (at 0x08 (instrs.Throw id) ∷ []) refl
  name_none Globals id = bytes_none (at 0x23 (instrs.GlobalGet id) ∷ at 0x24 (instrs.GlobalSet id) ∷ []) refl
  name_none ElementSegments id = bulks_none [] (at 13 (instrs.ElemDrop id) ∷ []) refl refl
  name_none DataSegments id = bulks_none [] (at 9 (instrs.DataDrop id) ∷ []) refl refl
  name_none Locals id = bytes_none (at 0x20 (instrs.LocalGet id) ∷ at 0x21 (instrs.LocalSet id) ∷ at 0x22 (instrs.LocalTee id) ∷ []) refl
  name_none Labels id = refl

  names_none : (s : Space) (a : ℕ) (t : Space) (b : ℕ) → gives_try (names_at code s a t b) ≡ false
  names_none Types a Tables b = bytes_none (at 0x11 (instrs.CallIndirect a b) ∷ at 0x13 (instrs.ReturnCallIndirect a b) ∷ []) refl
  names_none DataSegments a Memories b = bulks_none [] (at 8 (instrs.MemoryInit b a) ∷ []) refl refl
  names_none Memories a Memories b = bulks_none [] (at 10 (instrs.MemoryCopy b a) ∷ []) refl refl
  names_none ElementSegments a Tables b = bulks_none [] (at 12 (instrs.TableInit b a) ∷ []) refl refl
  names_none Tables a Tables b = bulks_none [] (at 14 (instrs.TableCopy b a) ∷ []) refl refl
  names_none Types a DataSegments b = objects_none [] (at 9 (instrs.ArrayNewData a b) ∷ at 18 (instrs.ArrayInitData a b) ∷ []) refl refl
  names_none Types a ElementSegments b = objects_none [] (at 10 (instrs.ArrayNewElem a b) ∷ at 19 (instrs.ArrayInitElem a b) ∷ []) refl refl
  names_none Types a Types b = objects_none [] (at 17 (instrs.ArrayCopy b a) ∷ []) refl refl
  names_none _ a _ b = refl

  counted_none : (ty n : ℕ) → gives_try (counted_at code ty n) ≡ false
  counted_none ty n =
      objects_none [] (at 2 (instrs.StructGet ty n) ∷ at 3 (instrs.StructGetS ty n) ∷ at 4 (instrs.StructGetU ty n) ∷ at 5 (instrs.StructSet ty n) ∷ at 8 (instrs.ArrayNewFixed ty n) ∷ []) refl refl

  heap_none : (heap : HeapType) → gives_try (heap_at code heap) ≡ false
  heap_none heap =
      objects_none (at 0xd0 (instrs.RefNull (to true heap)) ∷ [])
      (at 20 (instrs.RefTest (to false heap)) ∷ at 21 (instrs.RefTest (to true heap)) ∷ at 22 (instrs.RefCast (to false heap)) ∷ at 23 (instrs.RefCast (to true heap)) ∷ []) refl refl

  -- ---- of accesses to memory

  wait_none : (memory : ℕ) (arg : MemArg) → gives_try (wait_at code memory arg) ≡ false
  wait_none memory arg = prefix_none 0xfe (at 0 (instrs.AtomicNotify memory arg) ∷ at 1 (instrs.AtomicWait memory arg false) ∷ at 2 (instrs.AtomicWait memory arg true) ∷ []) None refl refl

  access_none : (memory : ℕ) (arg : MemArg) → gives_try (access_at code memory arg) ≡ false
  access_none memory arg =
      first_none (option_map (λ kind. instrs.Load memory kind arg) (load_at code)) _ (map_none (λ kind. instrs.Load memory kind arg) (λ x. refl) (load_at code))
      (first_none (option_map (λ kind. instrs.Store memory kind arg) (store_at code)) _ (map_none (λ kind. instrs.Store memory kind arg) (λ x. refl) (store_at code))
      (first_none (option_map (simd_access memory arg) (simd_at code None)) _ (map_none (simd_access memory arg) (λ x. refl) (simd_at code None))
      (first_none (option_map (λ change. instrs.AtomicRmw memory change.0 change.1 arg) (rmw_at code)) _ (map_none (λ change. instrs.AtomicRmw memory change.0 change.1 arg) (λ x. refl) (rmw_at code))
      (first_none (option_map (λ width. instrs.Cmpxchg memory width arg) (cmpxchg_at code)) _ (map_none (λ width. instrs.Cmpxchg memory width arg) (λ x. refl) (cmpxchg_at code))
      (wait_none memory arg)))))

-- ---- where it may be refused

abbrev pub reads_try : Or (Option Instr) → Bool
reads_try (Ok o) = gives_try o
reads_try (Err e) = false

then_none : {A : Type 0} (r : Or A) (f : A → Or (Option Instr)) → ((x : A) → reads_try (f x) ≡ false) → reads_try (r >>= f) ≡ false
then_none (Ok x) f h = h x
then_none (Err e) f h = refl

module _ (look : Look) (code : OpCode) where
  found_none : (space : Space) (n : ℕ) (f : ℕ → Or (Option Instr)) → ((id : ℕ) → reads_try (f id) ≡ false) → reads_try (found look space n >>= f) ≡ false
  found_none space n f h = then_none (found look space n) f h

  select_none : (tys : List WrittenValue) → reads_try (select_at (look Types) tys) ≡ false
  select_none [] = then_none (named (look Types) []) (λ _. Err errors.Select) (λ x. refl)
  select_none (ty ∷ []) = then_none (read_value (look Types) ty) (λ value. Ok (Some (instrs.Select (Some value)))) (λ x. refl)
  select_none (ty ∷ other ∷ tys) = then_none (named (look Types) (ty ∷ other ∷ tys)) (λ _. Err errors.Select) (λ x. refl)

  accessed_none : (a : MemoryAccess) (make : ℕ → MemArg → Option Instr) → ((memory : ℕ) (arg : MemArg) → gives_try (make memory arg) ≡ false)
      → reads_try (found look Memories a.memory >>= λ memory. arg_of a >>= λ arg. Ok (make memory arg)) ≡ false
  accessed_none a make h = found_none Memories a.memory _ (λ memory. then_none (arg_of a) (λ arg. Ok (make memory arg)) (λ arg. h memory arg))

  single_none : (x : Item) → reads_try (single_at look code x) ≡ false
  single_none (Names Types n) = found_none Types n _ (λ id. name_none code Types id)
  single_none (Names Functions n) = found_none Functions n _ (λ id. name_none code Functions id)
  single_none (Names Tables n) = found_none Tables n _ (λ id. name_none code Tables id)
  single_none (Names Memories n) = found_none Memories n _ (λ id. name_none code Memories id)
  single_none (Names Tags n) = found_none Tags n _ (λ id. name_none code Tags id)
  single_none (Names Globals n) = found_none Globals n _ (λ id. name_none code Globals id)
  single_none (Names ElementSegments n) = found_none ElementSegments n _ (λ id. name_none code ElementSegments id)
  single_none (Names DataSegments n) = found_none DataSegments n _ (λ id. name_none code DataSegments id)
  single_none (Names Locals n) = found_none Locals n _ (λ id. name_none code Locals id)
  single_none (Names Labels n) = refl
  single_none (S32 z) = bytes_none code (at 0x41 (instrs.Const (constants.I32 z)) ∷ []) refl
  single_none (S64 z) = bytes_none code (at 0x42 (instrs.Const (constants.I64 z)) ∷ []) refl
  single_none (Bits size n) = bits_none code size n
  single_none (Byte b) = byte_none code b
  single_none (Bytes bytes) = run_none code bytes
  single_none (Heap ty) = then_none (read_heap (look Types) ty) (λ heap. Ok (heap_at code heap)) (λ heap. heap_none code heap)
  single_none (Access a) = accessed_none a (λ memory arg. access_at code memory arg) (λ memory arg. access_none code memory arg)
  single_none (ManyValues tys) = select_none tys
  single_none _ = refl

  -- ---- two

  two_none : (s : Space) (m : ℕ) (t : Space) (n : ℕ) → reads_try (found look s m >>= λ a. found look t n >>= λ b. Ok (names_at code s a t b)) ≡ false
  two_none s m t n = found_none s m _ (λ a. found_none t n _ (λ b. names_none code s a t b))

  numbered_none : (s : Space) (m n : ℕ) → reads_try (pair_at look code (Names s m) (Number n)) ≡ false
  numbered_none Types m n = found_none Types m _ (λ ty. counted_none code ty n)
  numbered_none _ m n = refl

  named_none : (s : Space) (m : ℕ) (y : Item) → reads_try (pair_at look code (Names s m) y) ≡ false
  named_none s m (Names Types n) = two_none s m Types n
  named_none s m (Names Functions n) = two_none s m Functions n
  named_none s m (Names Tables n) = two_none s m Tables n
  named_none s m (Names Memories n) = two_none s m Memories n
  named_none s m (Names Tags n) = two_none s m Tags n
  named_none s m (Names Globals n) = two_none s m Globals n
  named_none s m (Names ElementSegments n) = two_none s m ElementSegments n
  named_none s m (Names DataSegments n) = two_none s m DataSegments n
  named_none s m (Names Locals n) = two_none s m Locals n
  named_none s m (Number n) = numbered_none s m n
  named_none s m _ = refl

  lane_none : (a : MemoryAccess) (y : Item) → reads_try (pair_at look code (Access a) y) ≡ false
  lane_none a (Byte b) = accessed_none a (λ memory arg. option_map (simd_access memory arg) (simd_at code (Some b))) (λ memory arg. map_none (simd_access memory arg) (λ x. refl) (simd_at code (Some b)))
  lane_none a _ = refl

  pair_none : (x y : Item) → reads_try (pair_at look code x y) ≡ false
  pair_none (Names s m) y = named_none s m y
  pair_none (Access a) y = lane_none a y
  pair_none _ y = refl

  items_none : (items : List Item) → reads_try (of_items look code items) ≡ false
  items_none [] = nothing_none code
  items_none (x ∷ []) = single_none x
  items_none (x ∷ y ∷ []) = pair_none x y
  items_none (x ∷ y ∷ z ∷ items) = refl

pub read_none : (look : Look) (op : Seen) (i : Instr) → instr_at look op ≡ Ok (Some i) → is_try i ≡ false
read_none look op i e = sym (ap reads_try e) ∙ items_none look op.code op.items
