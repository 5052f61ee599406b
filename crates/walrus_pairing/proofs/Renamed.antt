-- Lemmas: an operator comes back from its instruction, renamed.
use Rattle.std.specs.Prelude.{ℕ, ◌≡◌, ◌==◌, ◌&&◌, true, false, List, [], ◌∷◌, map, Option, Some, None, Ok, Err, refl}
use Rattle.std.specs.Option.{option_map}
use Rattle.std.specs.List.{AllByRecursion}
use Rattle.std.specs.Int.{w128, from_le_bytes}
use Rattle.std.proofs.Common.{ap, sym, subst, ◌∙◌, inl, inr}
use Rattle.std.proofs.lemmas.Bool.{cases_Bool, and_parts, eqb-true}
use Rattle.wasm_ref_types.specs.declared.heap.HeapType.{HeapType as WrittenHeap}
use Rattle.wasm_ref_types.specs.declared.value.ValType.{ValType as WrittenValue}
use Rattle.wasm_operators.specs.declared.memory_access.MemoryAccess.{MemoryAccess}
use Rattle.wasm_operators.specs.Items.{Space, Types, Functions, Tables, Memories, Tags, Globals, ElementSegments, DataSegments, Locals, Labels, Item, Names, Number, S32, S64, Bits, Byte, Bytes, Heap, Block, Access, ManyLabels, ManyValues, ManyClauses}
use Rattle.wasm_operators.specs.declared.op_code.OpCode.{OpCode}
use Rattle.wasm_operators.specs.Operators.{Seen}
use Rattle.wasm_operators.specs.Names.{Renaming, renamed_heap, renamed_value, renamed_item, renamed_operator}
use Rattle.wasm_operators.specs.NameLaws.{same}
use Rattle.wasm_operators.specs.Renamed.{same_is_same}
use Rattle.walrus_instr.specs.declared.instr.Value.TheVariants as constants
use Rattle.walrus_instr.specs.declared.instr.Instr.{Instr}
use Rattle.walrus_instr.specs.declared.instr.Instr.TheVariants as instrs
use Rattle.walrus_instr.specs.declared.memory.MemArg.{MemArg}
use Rattle.walrus_codes.specs.Runs.{byte}
use Rattle.walrus_codes.specs.Access.{simd_at}
use Rattle.walrus_pairing.specs.Looks.{Look, ◌>>=◌, found}
use Rattle.walrus_pairing.specs.Types.{read_heap, read_value, named}
use Rattle.walrus_pairing.specs.Write.{op, operator_at, lane_items}
use Rattle.walrus_pairing.specs.Read.{at, no_immediates_at, byte_at, run_at, bits_at, name_at, names_at, counted_at, to, heap_at, arg_of, simd_access, access_at, select_at, single_at, pair_at, of_bytes, of_items}
use Rattle.walrus_pairing.specs.Laws.{Renames, all, OperatorComesBack, OperatorsAreTold}
use Rattle.walrus_pairing.proofs.Forth.{bytes_found, objects_found, name_found, names_found, counted_found}
use Rattle.walrus_pairing.proofs.Codes.{by_rows}
use Rattle.walrus_pairing.proofs.Bytes.{bytes_again}
use Rattle.walrus_pairing.proofs.Kept.{IsKept, operator_kept}
use Rattle.walrus_codes.specs.Runs.{vector, atomic}
use Rattle.walrus_pairing.specs.declared.error.PairError.TheVariants as errors
use Rattle.walrus_pairing.proofs.TypesAgain.{heap_again, value_again}
use Rattle.walrus_pairing.proofs.Nothing.{Back, numeric_back, nothing_back}
use Rattle.walrus_pairing.proofs.Accesses.{Accessed, access_back, simd_back, arg_again}
use Rattle.walrus_pairing.proofs.Facts.{ok_is, then_is, found_is}

module _ (rename : Renaming) (there back : Look) (renames : Renames rename there back) where
  -- ---- names

  sent : (space : Space) (n id : ℕ) → found there space n ≡ Ok id → back space id ≡ Some (rename space n)
  sent space n id e = renames space n id (found_is there space n id e)

  name_back : (space : Space) (n : ℕ) (code : OpCode) (i : Instr) → (found there space n >>= λ id. Ok (name_at code space id)) ≡ Ok (Some i)
      → Back back (Names space (rename space n) ∷ []) code i
  name_back space n code i e =
      let got = then_is (found there space n) (λ id. Ok (name_at code space id)) (Some i) e in
      name_found back space got.0 (rename space n) (sent space n got.0 got.1) code i (ok_is (name_at code space got.0) (Some i) got.2)

  names_back : (s : Space) (m : ℕ) (t : Space) (n : ℕ) (code : OpCode) (i : Instr)
      → (found there s m >>= λ a. found there t n >>= λ b. Ok (names_at code s a t b)) ≡ Ok (Some i)
      → Back back (Names s (rename s m) ∷ Names t (rename t n) ∷ []) code i
  names_back s m t n code i e =
      let one = then_is (found there s m) (λ a. found there t n >>= λ b. Ok (names_at code s a t b)) (Some i) e in
      let two = then_is (found there t n) (λ b. Ok (names_at code s one.0 t b)) (Some i) one.2 in
      names_found back s one.0 (rename s m) (sent s m one.0 one.1) t two.0 (rename t n) (sent t n two.0 two.1) code i (ok_is (names_at code s one.0 t two.0) (Some i) two.2)

  counted_back : (m count : ℕ) (code : OpCode) (i : Instr) → (found there Types m >>= λ ty. Ok (counted_at code ty count)) ≡ Ok (Some i)
      → Back back (Names Types (rename Types m) ∷ Number count ∷ []) code i
  counted_back m count code i e =
      let got = then_is (found there Types m) (λ ty. Ok (counted_at code ty count)) (Some i) e in
      counted_found back got.0 (rename Types m) count (sent Types m got.0 got.1) code i (ok_is (counted_at code got.0 count) (Some i) got.2)

  -- ---- constants, bytes

  bits_back : (size n : ℕ) (code : OpCode) (i : Instr) → bits_at code size n ≡ Some i → Back back (Bits size n ∷ []) code i
  unfolding operator_at
  bits_back size n code i e = elim (cases_Bool (size == 4)) [
    | inl is ↦ subst (λ (s : ℕ). Back back (Bits s n ∷ []) code i) (sym (eqb-true size 4 is))
        (bytes_found (Back back (Bits 4 n ∷ [])) code i (at 0x43 (instrs.Const (constants.F32 n)) ∷ []) ((refl, tt), tt) (rw is at e))
    | inr out ↦ elim (cases_Bool (size == 8)) [
      | inl is ↦ subst (λ (s : ℕ). Back back (Bits s n ∷ []) code i) (sym (eqb-true size 8 is))
          (bytes_found (Back back (Bits 8 n ∷ [])) code i (at 0x44 (instrs.Const (constants.F64 n)) ∷ []) ((refl, tt), tt) (rw (out, is) at e))
      | inr far ↦ absurd (let w = (rw (out, far) at e) in cc)
    ]
  ]

  fence_back : (b : ℕ) (code : OpCode) (i : Instr) → (code.prefix == 0xfe) ≡ true → (code.number == 3) ≡ true → (b == 0) ≡ true → Some instrs.AtomicFence ≡ Some i
      → Back back (Byte b ∷ []) code i
  unfolding operator_at
  fence_back b code i prefix number none e =
      let p : code.prefix ≡ 0xfe = eqb-true code.prefix 0xfe prefix in
      let n : code.number ≡ 3 = eqb-true code.number 3 number in
      let same : atomic 3 ≡ code = (λ k. record { prefix = (sym p) k; number = (sym n) k }) in
      let is : instrs.AtomicFence ≡ i = cc in
      subst (λ (x : ℕ). Back back (Byte x ∷ []) code i) (sym (eqb-true b 0 none))
      (subst (λ (c : OpCode). Back back (Byte 0 ∷ []) c i) same (subst (Back back (Byte 0 ∷ []) (atomic 3)) is refl))

  byte_back : (b : ℕ) (code : OpCode) (i : Instr) → byte_at code b ≡ Some i → Back back (Byte b ∷ []) code i
  byte_back b code i e = elim (cases_Bool (code.prefix == 0xfe && code.number == 3 && b == 0)) [
    | inl is ↦
        let parts = and_parts (code.prefix == 0xfe && code.number == 3) (b == 0) is in
        let more = and_parts (code.prefix == 0xfe) (code.number == 3) parts.0 in
        fence_back b code i more.0 more.1 parts.1 (rw is at e)
    | inr out ↦ numeric_back back (Some b) code i (rw out at e)
  ]

  run_back : (bytes : List ℕ) (code : OpCode) (i : Instr) → IsKept code (Bytes bytes) → run_at code bytes ≡ Some i → Back back (Bytes bytes ∷ []) code i
  unfolding operator_at
  run_back bytes code i kept e = by_rows (Back back (Bytes bytes ∷ [])) 0xfd (at 12 (instrs.Const (constants.V128 (from_le_bytes w128 bytes))) ∷ at 13 (instrs.I8x16Shuffle bytes) ∷ [])
      ((ap (λ (l : List ℕ). op (vector 12) (Bytes l ∷ [])) (bytes_again bytes kept.0 kept.1), tt), ((refl, tt), tt)) code i e

  -- ---- types, and accesses

  heap_back : (ty : WrittenHeap) (code : OpCode) (i : Instr) → (read_heap (there Types) ty >>= λ heap. Ok (heap_at code heap)) ≡ Ok (Some i)
      → Back back (Heap (renamed_heap rename ty) ∷ []) code i
  unfolding operator_at
  heap_back ty code i e =
      let got = then_is (read_heap (there Types) ty) (λ heap. Ok (heap_at code heap)) (Some i) e in
      let again = heap_again rename there back renames ty got.0 got.1 in
      objects_found (Back back (Heap (renamed_heap rename ty) ∷ [])) code i (at 0xd0 (instrs.RefNull (to true got.0)) ∷ [])
      (at 20 (instrs.RefTest (to false got.0)) ∷ at 21 (instrs.RefTest (to true got.0)) ∷ at 22 (instrs.RefCast (to false got.0)) ∷ at 23 (instrs.RefCast (to true got.0)) ∷ [])
      ((rw again refl, tt), tt) ((rw again refl, tt), ((rw again refl, tt), ((rw again refl, tt), ((rw again refl, tt), tt)))) (ok_is (heap_at code got.0) (Some i) got.2)

  value_back : (ty : WrittenValue) (i : Instr) → (read_value (there Types) ty >>= λ value. Ok (Some (instrs.Select (Some value)))) ≡ Ok (Some i)
      → Back back (ManyValues (renamed_value rename ty ∷ []) ∷ []) (byte 0x1c) i
  unfolding operator_at
  value_back ty i e =
      let got = then_is (read_value (there Types) ty) (λ value. Ok (Some (instrs.Select (Some value)))) (Some i) e in
      let is : instrs.Select (Some got.0) ≡ i = (let w = ok_is (Some (instrs.Select (Some got.0))) (Some i) got.2 in cc) in
      let again = value_again rename there back renames ty got.0 got.1 in
      subst (Back back (ManyValues (renamed_value rename ty ∷ []) ∷ []) (byte 0x1c)) is (rw again refl)

  refused : (tys : List WrittenValue) (i : Instr) → (named (there Types) tys >>= λ _. Err errors.Select) ≡ Ok (Some i) → ⊥
  refused tys i e =
      let got = then_is (named (there Types) tys) (λ _. Err errors.Select) (Some i) e in
      let out = got.2 in
      cc

  select_back : (tys : List WrittenValue) (i : Instr) → select_at (there Types) tys ≡ Ok (Some i) → Back back (ManyValues (map (renamed_value rename) tys) ∷ []) (byte 0x1c) i
  select_back [] i e = absurd (refused [] i e)
  select_back (ty ∷ []) i e = value_back ty i e
  select_back (ty ∷ other ∷ tys) i e = absurd (refused (ty ∷ other ∷ tys) i e)

  -- where an access lies, and what comes back of it
  module _ (a : MemoryAccess) (code : OpCode) (i : Instr) (lane : Option ℕ) (make : ℕ → MemArg → Option Instr) where
    reached : (found there Memories a.memory >>= λ memory. arg_of a >>= λ arg. Ok (make memory arg)) ≡ Ok (Some i)
        → ((memory m : ℕ) (h : back Memories memory ≡ Some m) (arg : MemArg) → make memory arg ≡ Some i → Accessed back memory m h arg lane code i)
        → Back back (Access (record a { memory = rename Memories a.memory }) ∷ lane_items lane) code i
    reached e each =
        let one = then_is (found there Memories a.memory) (λ memory. arg_of a >>= λ arg. Ok (make memory arg)) (Some i) e in
        let two = then_is (arg_of a) (λ arg. Ok (make one.0 arg)) (Some i) one.2 in
        each one.0 (rename Memories a.memory) (sent Memories a.memory one.0 one.1) two.0 (ok_is (make one.0 two.0) (Some i) two.2)
        ∙ ap (λ (x : MemoryAccess). op code (Access x ∷ lane_items lane)) (arg_again (rename Memories a.memory) a two.0 two.1)

  -- ---- one item

  single_back : (code : OpCode) (x : Item) (i : Instr) → IsKept code x → single_at there code x ≡ Ok (Some i) → Back back (renamed_item rename x ∷ []) code i
  unfolding operator_at
  single_back code (Names Types n) i kept e = name_back Types n code i e
  single_back code (Names Functions n) i kept e = name_back Functions n code i e
  single_back code (Names Tables n) i kept e = name_back Tables n code i e
  single_back code (Names Memories n) i kept e = name_back Memories n code i e
  single_back code (Names Tags n) i kept e = name_back Tags n code i e
  single_back code (Names Globals n) i kept e = name_back Globals n code i e
  single_back code (Names ElementSegments n) i kept e = name_back ElementSegments n code i e
  single_back code (Names DataSegments n) i kept e = name_back DataSegments n code i e
  single_back code (Names Locals n) i kept e = name_back Locals n code i e
  single_back code (Names Labels n) i kept e = absurd cc
  single_back code (Number n) i kept e = absurd cc
  single_back code (S32 z) i kept e = bytes_found (Back back (S32 z ∷ [])) code i (at 0x41 (instrs.Const (constants.I32 z)) ∷ []) ((refl, tt), tt) (ok_is (of_bytes (at 0x41 (instrs.Const (constants.I32 z)) ∷ []) code) (Some i) e)
  single_back code (S64 z) i kept e = bytes_found (Back back (S64 z ∷ [])) code i (at 0x42 (instrs.Const (constants.I64 z)) ∷ []) ((refl, tt), tt) (ok_is (of_bytes (at 0x42 (instrs.Const (constants.I64 z)) ∷ []) code) (Some i) e)
  single_back code (Bits size n) i kept e = bits_back size n code i (ok_is (bits_at code size n) (Some i) e)
  single_back code (Byte b) i kept e = byte_back b code i (ok_is (byte_at code b) (Some i) e)
  single_back code (Bytes bytes) i kept e = run_back bytes code i kept (ok_is (run_at code bytes) (Some i) e)
  single_back code (Heap ty) i kept e = heap_back ty code i e
  single_back code (Block ty) i kept e = absurd cc
  single_back code (Access a) i kept e = reached a code i None (λ memory arg. access_at code memory arg) e (λ memory m h arg f. access_back back memory m h arg code i f)
  single_back code (ManyLabels ns) i kept e = absurd cc
  single_back code (ManyValues tys) i kept e = subst (λ (c : OpCode). Back back (ManyValues (map (renamed_value rename) tys) ∷ []) c i) (sym kept) (select_back tys i e)
  single_back code (ManyClauses cs) i kept e = absurd cc

  -- ---- two items

  counted_pair : (code : OpCode) (s : Space) (m n : ℕ) (i : Instr) → pair_at there code (Names s m) (Number n) ≡ Ok (Some i)
      → Back back (Names s (rename s m) ∷ Number n ∷ []) code i
  counted_pair code Types m n i e = counted_back m n code i e
  counted_pair code _ m n i e = absurd cc

  named_pair : (code : OpCode) (s : Space) (m : ℕ) (y : Item) (i : Instr) → pair_at there code (Names s m) y ≡ Ok (Some i)
      → Back back (Names s (rename s m) ∷ renamed_item rename y ∷ []) code i
  named_pair code s m (Names Types n) i e = names_back s m Types n code i e
  named_pair code s m (Names Functions n) i e = names_back s m Functions n code i e
  named_pair code s m (Names Tables n) i e = names_back s m Tables n code i e
  named_pair code s m (Names Memories n) i e = names_back s m Memories n code i e
  named_pair code s m (Names Tags n) i e = names_back s m Tags n code i e
  named_pair code s m (Names Globals n) i e = names_back s m Globals n code i e
  named_pair code s m (Names ElementSegments n) i e = names_back s m ElementSegments n code i e
  named_pair code s m (Names DataSegments n) i e = names_back s m DataSegments n code i e
  named_pair code s m (Names Locals n) i e = names_back s m Locals n code i e
  named_pair code s m (Number n) i e = counted_pair code s m n i e
  named_pair code s m _ i e = absurd cc

  lane_pair : (code : OpCode) (a : MemoryAccess) (y : Item) (i : Instr) → pair_at there code (Access a) y ≡ Ok (Some i)
      → Back back (Access (record a { memory = rename Memories a.memory }) ∷ renamed_item rename y ∷ []) code i
  lane_pair code a (Byte b) i e = reached a code i (Some b) (λ memory arg. option_map (simd_access memory arg) (simd_at code (Some b))) e (λ memory m h arg f. simd_back back memory m h arg (Some b) code i f)
  lane_pair code a _ i e = absurd cc

  pair_back : (code : OpCode) (x y : Item) (i : Instr) → pair_at there code x y ≡ Ok (Some i) → Back back (renamed_item rename x ∷ renamed_item rename y ∷ []) code i
  pair_back code (Names s m) y i e = named_pair code s m y i e
  pair_back code (Access a) y i e = lane_pair code a y i e
  pair_back code _ y i e = absurd cc

  -- ---- all

  items_back : (code : OpCode) (items : List Item) (i : Instr) → AllByRecursion (IsKept code) items → of_items there code items ≡ Ok (Some i)
      → Back back (map (renamed_item rename) items) code i
  items_back code [] i kept e = nothing_back back code i (ok_is (no_immediates_at code) (Some i) e)
  items_back code (x ∷ []) i kept e = single_back code x i kept.0 e
  items_back code (x ∷ y ∷ []) i kept e = pair_back code x y i e
  items_back code (x ∷ y ∷ z ∷ items) i kept e = absurd cc

pub operator_comes_back : OperatorComesBack
operator_comes_back rename there back renames features op i fits e = items_back rename there back renames op.code op.items i (operator_kept features op fits) e

seen_is : (a b : Seen) → op a.code a.items ≡ op b.code b.items → a ≡ b
seen_is a b e = cc

pub operators_are_told : OperatorsAreTold
operators_are_told features op other i fits fits_too e f =
    let undone : Renames same all all = λ space n id h. sym h in
    let one = operator_comes_back same all all undone features op i fits e in
    let two = operator_comes_back same all all undone features other i fits_too f in
    sym (same_is_same op) ∙ seen_is (renamed_operator same op) (renamed_operator same other) (sym one ∙ two) ∙ same_is_same other
