-- Lemmas: each plain operator that has a spelling has an instruction.
use Rattle.std.specs.Prelude.{ℕ, ℤ, pos, ◌<◌, ◌^◌, ◌≡◌, ◌||◌, not, Bool, true, false, List, [], ◌∷◌, Option, Some, None, Ok, if◌then◌else◌, refl}
use Rattle.std.specs.Option.{is_some, option_map}
use Rattle.std.proofs.Common.{ap, sym, subst, ◌∙◌}
use Rattle.std.proofs.lemmas.Bool.{lt-ltb}
use Rattle.wasm_operators.specs.wasm_features.declared.WasmFeatures.{WasmFeatures}
use Rattle.wasm_ref_types.specs.declared.heap.AbstractHeapType.{AbstractHeapType as WrittenAbstract}
use Rattle.wasm_ref_types.specs.declared.heap.AbstractHeapType.TheVariants as abstracts
use Rattle.wasm_ref_types.specs.declared.heap.HeapType.{HeapType as WrittenHeap}
use Rattle.wasm_ref_types.specs.declared.heap.HeapType.TheVariants.{Abstract as WAbstract, Concrete as WConcrete, Exact as WExact}
use Rattle.wasm_ref_types.specs.declared.index.UnpackedIndex.TheVariants.{Module, RecGroup, Id}
use Rattle.wasm_ref_types.specs.declared.value.ValType.{ValType as WrittenValue}
use Rattle.wasm_ref_types.specs.declared.value.ValType.TheVariants.{I32 as WI32, I64 as WI64, F32 as WF32, F64 as WF64, V128 as WV128, Ref as WRef}
use Rattle.wasm_operators.specs.declared.memory_access.MemoryAccess.{MemoryAccess}
use Rattle.wasm_operators.specs.Items.{Space, Types, Functions, Tables, Memories, Tags, Globals, ElementSegments, DataSegments, Locals, Labels, Item, Names, Number, S32, S64, Bits, Byte, Bytes, Heap, Access, ManyValues, Form, index, number, s32, s64, bits, run, any_byte, zero_byte, heap, access, values}
use Rattle.wasm_operators.specs.declared.entry.Entry.{Entry}
use Rattle.wasm_operators.specs.declared.entry.Kind.{Kind}
use Rattle.wasm_operators.specs.declared.entry.Kind.TheVariants as kinds
use Rattle.wasm_operators.specs.declared.op_code.OpCode.{OpCode}
use Rattle.wasm_operators.specs.Table.{find_code, structure_rows, call_rows, plain_rows, fb_rows, fc_rows, fd_rows, fe_rows}
use Rattle.wasm_operators.specs.Kinds.{forms}
use Rattle.wasm_operators.specs.Operators.{op_code}
use Rattle.wasm_operators.specs.Ranges.{ItemFits, ItemsFit}
use Rattle.walrus_forms.specs.declared.value.AbstractHeapType.{AbstractHeapType}
use Rattle.walrus_forms.specs.declared.value.AbstractHeapType.TheVariants as types
use Rattle.walrus_forms.specs.declared.value.HeapType.{HeapType}
use Rattle.walrus_forms.specs.declared.value.HeapType.TheVariants.{Abstract, Shared, Concrete, Exact}
use Rattle.walrus_forms.specs.declared.value.ValType.{ValType}
use Rattle.walrus_forms.specs.declared.value.ValType.TheVariants.{I32, I64, F32, F64, V128, Ref}
use Rattle.walrus_instr.specs.declared.instr.Value.TheVariants as constants
use Rattle.walrus_instr.specs.declared.instr.Instr.{Instr}
use Rattle.walrus_instr.specs.declared.instr.Instr.TheVariants as instrs
use Rattle.walrus_instr.specs.declared.memory.MemArg.{MemArg}
use Rattle.walrus_codes.specs.Unary.{unary_bytes, unary_bulks, low_unary_vectors, high_unary_vectors, unary_lanes}
use Rattle.walrus_codes.specs.Binary.{binary_bytes, binary_bulks, low_binary_vectors, high_binary_vectors, binary_lanes}
use Rattle.walrus_codes.specs.Ternary.{ternary_vectors}
use Rattle.walrus_codes.specs.Access.{byte_loads, atomic_loads, byte_stores, atomic_stores, vector_accesses, lane_accesses, atomic_changes, simd_at}
use Rattle.walrus_pairing.specs.Looks.{Look, ◌>>=◌, found}
use Rattle.walrus_pairing.specs.Types.{read_abstract, read_heap, read_value}
use Rattle.walrus_pairing.specs.Read.{at, no_immediates_at, byte_at, run_at, bits_at, name_at, names_at, counted_at, heap_at, arg_of, simd_access, access_at, of_bytes, single_at, pair_at, of_items}
use Rattle.walrus_pairing.specs.Plain.{holds_labels, is_no_step, is_plain, IsFound, is_continuation, IsHeapHeld, IsValueHeld, IsHeld, AreHeld}
use Rattle.walrus_pairing.specs.Laws.{PlainIsRead}
use Rattle.walrus_pairing.proofs.Rows.{TablePasses, table_holds}
use Rattle.walrus_pairing.proofs.Kept.{entry_of}

-- ---- types

abstract_held : (ty : WrittenAbstract) → is_continuation ty ≡ false → (kind : AbstractHeapType) × (read_abstract ty ≡ Ok kind)
abstract_held abstracts.Func e = (_, refl)
abstract_held abstracts.Extern e = (_, refl)
abstract_held abstracts.Any e = (_, refl)
abstract_held abstracts.None e = (_, refl)
abstract_held abstracts.NoExtern e = (_, refl)
abstract_held abstracts.NoFunc e = (_, refl)
abstract_held abstracts.Eq e = (_, refl)
abstract_held abstracts.Struct e = (_, refl)
abstract_held abstracts.Array e = (_, refl)
abstract_held abstracts.I31 e = (_, refl)
abstract_held abstracts.Exn e = (_, refl)
abstract_held abstracts.NoExn e = (_, refl)
abstract_held abstracts.Cont e = absurd cc
abstract_held abstracts.NoCont e = absurd cc

module _ (look : Look) where
  heap_held : (ty : WrittenHeap) → IsHeapHeld look ty → (h : HeapType) × (read_heap (look Types) ty ≡ Ok h)
  heap_held (WAbstract false ty) held = let kind = abstract_held ty held in (Abstract kind.0, rw kind.1 refl)
  heap_held (WAbstract true ty) held = let kind = abstract_held ty held in (Shared kind.0, rw kind.1 refl)
  heap_held (WConcrete (Module n)) held = (Concrete held.0, rw held.1 refl)
  heap_held (WConcrete (RecGroup n)) held = absurd held
  heap_held (WConcrete (Id id)) held = absurd held
  heap_held (WExact (Module n)) held = (Exact held.0, rw held.1 refl)
  heap_held (WExact (RecGroup n)) held = absurd held
  heap_held (WExact (Id id)) held = absurd held

  value_held : (ty : WrittenValue) → IsValueHeld look ty → (v : ValType) × (read_value (look Types) ty ≡ Ok v)
  value_held WI32 held = (I32, refl)
  value_held WI64 held = (I64, refl)
  value_held WF32 held = (F32, refl)
  value_held WF64 held = (F64, refl)
  value_held WV128 held = (V128, refl)
  value_held (WRef ty) held =
      let h = heap_held ty.heap_type held in
      (Ref (record { nullable = ty.nullable; heap_type = h.0 }), rw h.1 refl)

-- ---- what the table's rows are read as

-- what the immediates are read as
pub record Parts : Type 0 where
  pub one : ℕ
  pub other : ℕ
  pub int : ℤ
  pub bytes : List ℕ
  pub arg : MemArg
  pub ty : HeapType

abbrev pub no_parts : Parts
no_parts = record { one = 0; other = 0; int = pos 0; bytes = []; arg = record { align = 1; offset = 0 }; ty = Abstract types.Func }

-- an operator of this kind and code has an instruction
abbrev pub reads : Parts → Kind → OpCode → Bool
reads p kinds.Bare code = is_some (no_immediates_at code)
reads p kinds.Tag code = is_some (name_at code Tags p.one)
reads p kinds.Function code = is_some (name_at code Functions p.one)
reads p kinds.TypeTable code = is_some (names_at code Types p.one Tables p.other)
reads p kinds.Type code = is_some (name_at code Types p.one)
reads p kinds.Local code = is_some (name_at code Locals p.one)
reads p kinds.Global code = is_some (name_at code Globals p.one)
reads p kinds.Table code = is_some (name_at code Tables p.one)
reads p kinds.Access code = is_some (access_at code p.one p.arg)
reads p kinds.Memory code = is_some (name_at code Memories p.one)
reads p kinds.I32 code = is_some (of_bytes (at 0x41 (instrs.Const (constants.I32 p.int)) ∷ []) code)
reads p kinds.I64 code = is_some (of_bytes (at 0x42 (instrs.Const (constants.I64 p.int)) ∷ []) code)
reads p kinds.F32 code = is_some (bits_at code 4 p.one)
reads p kinds.F64 code = is_some (bits_at code 8 p.one)
reads p kinds.Heap code = is_some (heap_at code p.ty)
reads p kinds.DataMemory code = is_some (names_at code DataSegments p.one Memories p.other)
reads p kinds.Data code = is_some (name_at code DataSegments p.one)
reads p kinds.MemoryMemory code = is_some (names_at code Memories p.one Memories p.other)
reads p kinds.ElementTable code = is_some (names_at code ElementSegments p.one Tables p.other)
reads p kinds.Element code = is_some (name_at code ElementSegments p.one)
reads p kinds.TableTable code = is_some (names_at code Tables p.one Tables p.other)
reads p kinds.TypeNumber code = is_some (counted_at code p.one p.other)
reads p kinds.TypeData code = is_some (names_at code Types p.one DataSegments p.other)
reads p kinds.TypeElement code = is_some (names_at code Types p.one ElementSegments p.other)
reads p kinds.TypeType code = is_some (names_at code Types p.one Types p.other)
reads p kinds.Vector code = is_some (run_at code p.bytes)
reads p kinds.Lane code = is_some (byte_at code p.one)
reads p kinds.AccessLane code = is_some (option_map (simd_access p.one p.arg) (simd_at code (Some p.other)))
reads p kinds.Zero code = is_some (byte_at code 0)
reads p _ code = true

abbrev pub plain_test : Parts → ℕ → Entry → ℕ → Bool
plain_test p prefix e n = if is_plain e then reads p e.kind (op_code prefix n) else true

pub plain_passes : (p : Parts) → TablePasses (plain_test p)
unfolding structure_rows call_rows plain_rows fb_rows fc_rows fd_rows fe_rows unary_bytes unary_bulks low_unary_vectors high_unary_vectors unary_lanes binary_bytes binary_bulks low_binary_vectors high_binary_vectors binary_lanes ternary_vectors byte_loads atomic_loads byte_stores atomic_stores vector_accesses lane_accesses atomic_changes
plain_passes p = record { structure = refl; call = refl; plain = refl; fb = refl; fc = refl; fd = refl; fe = refl }

-- ---- from the immediates to the instruction

some_of : {A : Type 0} (o : Option A) → is_some o ≡ true → (x : A) × (o ≡ Some x)
some_of None e = absurd cc
some_of (Some x) e = (x, refl)

-- labels are read as no name
abbrev is_label : Space → Bool
is_label Labels = true
is_label _ = false

module _ (look : Look) (code : OpCode) where
  single_name : (space : Space) (n : ℕ) → is_label space ≡ false → single_at look code (Names space n) ≡ (found look space n >>= λ id. Ok (name_at code space id))
  single_name Labels n e = absurd cc
  single_name Types n e = refl
  single_name Functions n e = refl
  single_name Tables n e = refl
  single_name Memories n e = refl
  single_name Tags n e = refl
  single_name Globals n e = refl
  single_name ElementSegments n e = refl
  single_name DataSegments n e = refl
  single_name Locals n e = refl

  pair_name : (s : Space) (m : ℕ) (t : Space) (n : ℕ) → is_label t ≡ false
      → pair_at look code (Names s m) (Names t n) ≡ (found look s m >>= λ a. found look t n >>= λ b. Ok (names_at code s a t b))
  pair_name s m Labels n e = absurd cc
  pair_name s m Types n e = refl
  pair_name s m Functions n e = refl
  pair_name s m Tables n e = refl
  pair_name s m Memories n e = refl
  pair_name s m Tags n e = refl
  pair_name s m Globals n e = refl
  pair_name s m ElementSegments n e = refl
  pair_name s m DataSegments n e = refl
  pair_name s m Locals n e = refl

  abbrev IsRead : List Item → Type 0
  IsRead items = (i : Instr) × (of_items look code items ≡ Ok (Some i))

  read_of : (items : List Item) (o : Option Instr) → of_items look code items ≡ Ok o → is_some o ≡ true → IsRead items
  read_of items o e is = let got = some_of o is in (got.0, e ∙ ap (λ (x : Option Instr). Ok x) got.1)

  named : (space : Space) → is_label space ≡ false → (n : ℕ) → IsFound look space n → ((id : ℕ) → is_some (name_at code space id) ≡ true) → IsRead (Names space n ∷ [])
  named space is n held all =
      read_of (Names space n ∷ []) (name_at code space held.0) (single_name space n is ∙ (rw held.1 refl)) (all held.0)

  named_twice : (s t : Space) → is_label t ≡ false → (m n : ℕ) → IsFound look s m → IsFound look t n
      → ((a b : ℕ) → is_some (names_at code s a t b) ≡ true) → IsRead (Names s m ∷ Names t n ∷ [])
  named_twice s t is m n first second all =
      read_of (Names s m ∷ Names t n ∷ []) (names_at code s first.0 t second.0) (pair_name s m t n is ∙ (rw (first.1, second.1) refl)) (all first.0 second.0)

  given : (a : MemoryAccess) → a.align < 32 → arg_of a ≡ Ok (record { align = 2 ^ a.align; offset = a.offset })
  given a low = rw (lt-ltb a.align 32 low) refl

  -- items of one form, of two
  module _ (features : WasmFeatures) where
    one_form : (form : Form) (items : List Item) → ItemsFit features (form ∷ []) items → AreHeld look items
        → ((x : Item) → ItemFits features form x → IsHeld look x → IsRead (x ∷ [])) → IsRead items
    one_form form items fits held each =
        let is : items ≡ fits.0 ∷ [] = fits.2 ∙ ap (λ (l : List Item). fits.0 ∷ l) fits.4 in
        let got : AreHeld look (fits.0 ∷ []) = subst (AreHeld look) is held in
        subst IsRead (sym is) (each fits.0 fits.3 got.0)

    two_forms : (form second : Form) (items : List Item) → ItemsFit features (form ∷ second ∷ []) items → AreHeld look items
        → ((x y : Item) → ItemFits features form x → ItemFits features second y → IsHeld look x → IsHeld look y → IsRead (x ∷ y ∷ [])) → IsRead items
    two_forms form second items fits held each =
        let more = fits.4 in
        let is : items ≡ fits.0 ∷ more.0 ∷ [] = fits.2 ∙ ap (λ (l : List Item). fits.0 ∷ l) (more.2 ∙ ap (λ (l : List Item). more.0 ∷ l) more.4) in
        let got : AreHeld look (fits.0 ∷ more.0 ∷ []) = subst (AreHeld look) is held in
        let later = got.1 in
        subst IsRead (sym is) (each fits.0 more.0 fits.3 more.3 got.0 later.0)

    -- made of a value
    made : {A : Type 0} (make : A → Item) (x : Item) (v : A) → x ≡ make v → IsHeld look x → (IsHeld look (make v) → IsRead (make v ∷ [])) → IsRead (x ∷ [])
    made make x v is held each = subst (λ (y : Item). IsRead (y ∷ [])) (sym is) (each (subst (IsHeld look) is held))

    both_made : {A B : Type 0} (make : A → Item) (and : B → Item) (x y : Item) (v : A) (w : B) → x ≡ make v → y ≡ and w → IsHeld look x → IsHeld look y
        → (IsHeld look (make v) → IsHeld look (and w) → IsRead (make v ∷ and w ∷ [])) → IsRead (x ∷ y ∷ [])
    both_made make and x y v w is same held too each =
        subst (λ (z : Item). IsRead (z ∷ y ∷ [])) (sym is) (subst (λ (z : Item). IsRead (make v ∷ z ∷ [])) (sym same) (each (subst (IsHeld look) is held) (subst (IsHeld look) same too)))

    name_form : (space : Space) → is_label space ≡ false → (items : List Item) → ItemsFit features (index space ∷ []) items → AreHeld look items
        → ((id : ℕ) → is_some (name_at code space id) ≡ true) → IsRead items
    name_form space is items fits held all = one_form (index space) items fits held (λ x fit hold. made (Names space) x fit.0 fit.1 hold (λ got. named space is fit.0 got all))

    names_form : (s t : Space) → is_label t ≡ false → (items : List Item) → ItemsFit features (index s ∷ index t ∷ []) items → AreHeld look items
        → ((a b : ℕ) → is_some (names_at code s a t b) ≡ true) → IsRead items
    names_form s t is items fits held all = two_forms (index s) (index t) items fits held
        (λ x y fit fit_too hold too. both_made (Names s) (Names t) x y fit.0 fit_too.0 fit.1 fit_too.1 hold too (λ got more. named_twice s t is fit.0 fit_too.0 got more all))

    kind_read : (kind : Kind) (items : List Item) → ItemsFit features (forms kind) items → AreHeld look items → holds_labels kind ≡ false
        → ((p : Parts) → reads p kind code ≡ true) → IsRead items
    kind_read kinds.Bare items fits held plain all = subst IsRead (sym fits) (read_of [] (no_immediates_at code) refl (all no_parts))
    kind_read kinds.Tag items fits held plain all = name_form Tags refl items fits held (λ id. all (record no_parts { one = id }))
    kind_read kinds.Function items fits held plain all = name_form Functions refl items fits held (λ id. all (record no_parts { one = id }))
    kind_read kinds.Type items fits held plain all = name_form Types refl items fits held (λ id. all (record no_parts { one = id }))
    kind_read kinds.Local items fits held plain all = name_form Locals refl items fits held (λ id. all (record no_parts { one = id }))
    kind_read kinds.Global items fits held plain all = name_form Globals refl items fits held (λ id. all (record no_parts { one = id }))
    kind_read kinds.Table items fits held plain all = name_form Tables refl items fits held (λ id. all (record no_parts { one = id }))
    kind_read kinds.Memory items fits held plain all = name_form Memories refl items fits held (λ id. all (record no_parts { one = id }))
    kind_read kinds.Data items fits held plain all = name_form DataSegments refl items fits held (λ id. all (record no_parts { one = id }))
    kind_read kinds.Element items fits held plain all = name_form ElementSegments refl items fits held (λ id. all (record no_parts { one = id }))
    kind_read kinds.TypeTable items fits held plain all = names_form Types Tables refl items fits held (λ a b. all (record no_parts { one = a; other = b }))
    kind_read kinds.DataMemory items fits held plain all = names_form DataSegments Memories refl items fits held (λ a b. all (record no_parts { one = a; other = b }))
    kind_read kinds.MemoryMemory items fits held plain all = names_form Memories Memories refl items fits held (λ a b. all (record no_parts { one = a; other = b }))
    kind_read kinds.ElementTable items fits held plain all = names_form ElementSegments Tables refl items fits held (λ a b. all (record no_parts { one = a; other = b }))
    kind_read kinds.TableTable items fits held plain all = names_form Tables Tables refl items fits held (λ a b. all (record no_parts { one = a; other = b }))
    kind_read kinds.TypeData items fits held plain all = names_form Types DataSegments refl items fits held (λ a b. all (record no_parts { one = a; other = b }))
    kind_read kinds.TypeElement items fits held plain all = names_form Types ElementSegments refl items fits held (λ a b. all (record no_parts { one = a; other = b }))
    kind_read kinds.TypeType items fits held plain all = names_form Types Types refl items fits held (λ a b. all (record no_parts { one = a; other = b }))
    kind_read kinds.I32 items fits held plain all = one_form s32 items fits held (λ x fit hold. made S32 x fit.0 fit.1 hold
        (λ got. read_of (S32 fit.0 ∷ []) (of_bytes (at 0x41 (instrs.Const (constants.I32 fit.0)) ∷ []) code) refl (all (record no_parts { int = fit.0 }))))
    kind_read kinds.I64 items fits held plain all = one_form s64 items fits held (λ x fit hold. made S64 x fit.0 fit.1 hold
        (λ got. read_of (S64 fit.0 ∷ []) (of_bytes (at 0x42 (instrs.Const (constants.I64 fit.0)) ∷ []) code) refl (all (record no_parts { int = fit.0 }))))
    kind_read kinds.F32 items fits held plain all = one_form (bits 4) items fits held (λ x fit hold. made (Bits 4) x fit.0 fit.1 hold
        (λ got. read_of (Bits 4 fit.0 ∷ []) (bits_at code 4 fit.0) refl (all (record no_parts { one = fit.0 }))))
    kind_read kinds.F64 items fits held plain all = one_form (bits 8) items fits held (λ x fit hold. made (Bits 8) x fit.0 fit.1 hold
        (λ got. read_of (Bits 8 fit.0 ∷ []) (bits_at code 8 fit.0) refl (all (record no_parts { one = fit.0 }))))
    kind_read kinds.Vector items fits held plain all = one_form (run 16) items fits held (λ x fit hold. made Bytes x fit.0 fit.1 hold
        (λ got. read_of (Bytes fit.0 ∷ []) (run_at code fit.0) refl (all (record no_parts { bytes = fit.0 }))))
    kind_read kinds.Lane items fits held plain all = one_form any_byte items fits held (λ x fit hold. made Byte x fit.0 fit.1 hold
        (λ got. read_of (Byte fit.0 ∷ []) (byte_at code fit.0) refl (all (record no_parts { one = fit.0 }))))
    kind_read kinds.Zero items fits held plain all = one_form zero_byte items fits held (λ x fit hold. made Byte x 0 (fit.1 ∙ ap Byte fit.2) hold
        (λ got. read_of (Byte 0 ∷ []) (byte_at code 0) refl (all no_parts)))
    kind_read kinds.Heap items fits held plain all = one_form heap items fits held (λ x fit hold. made Heap x fit.0 fit.1 hold
        (λ got. let h = heap_held look fit.0 got in
        read_of (Heap fit.0 ∷ []) (heap_at code h.0) (rw h.1 refl) (all (record no_parts { ty = h.0 }))))
    kind_read kinds.Select items fits held plain all = one_form values items fits held (λ x fit hold. made ManyValues x fit.0 fit.1 hold (λ got. of_types fit.0 got))
      where
        of_types : (tys : List WrittenValue) → IsHeld look (ManyValues tys) → IsRead (ManyValues tys ∷ [])
        of_types tys got =
            let v = value_held look got.0 got.2 in
            subst (λ (l : List WrittenValue). IsRead (ManyValues l ∷ [])) (sym got.1) (instrs.Select (Some v.0), rw v.1 refl)
    kind_read kinds.TypeNumber items fits held plain all = two_forms (index Types) number items fits held
        (λ x y fit fit_too hold too. both_made (Names Types) Number x y fit.0 fit_too.0 fit.1 fit_too.1 hold too
        (λ got more. read_of (Names Types fit.0 ∷ Number fit_too.0 ∷ []) (counted_at code got.0 fit_too.0) (rw got.1 refl) (all (record no_parts { one = got.0; other = fit_too.0 }))))
    kind_read kinds.Access items fits held plain all = one_form access items fits held (λ x fit hold. made Access x fit.0 fit.1 hold
        (λ got. let reached = got.0 in let arg = given fit.0 got.1 in
        read_of (Access fit.0 ∷ []) (access_at code reached.0 (record { align = 2 ^ fit.0.align; offset = fit.0.offset })) (rw (reached.1, arg) refl)
        (all (record no_parts { one = reached.0; arg = record { align = 2 ^ fit.0.align; offset = fit.0.offset } }))))
    kind_read kinds.AccessLane items fits held plain all = two_forms access any_byte items fits held
        (λ x y fit fit_too hold too. both_made Access Byte x y fit.0 fit_too.0 fit.1 fit_too.1 hold too
        (λ got more. let reached = got.0 in let arg = given fit.0 got.1 in
        read_of (Access fit.0 ∷ Byte fit_too.0 ∷ []) (option_map (simd_access reached.0 (record { align = 2 ^ fit.0.align; offset = fit.0.offset })) (simd_at code (Some fit_too.0))) (rw (reached.1, arg) refl)
        (all (record no_parts { one = reached.0; other = fit_too.0; arg = record { align = 2 ^ fit.0.align; offset = fit.0.offset } }))))
    kind_read kinds.Block items fits held plain all = absurd cc
    kind_read kinds.TryTable items fits held plain all = absurd cc
    kind_read kinds.Label items fits held plain all = absurd cc
    kind_read kinds.BrTable items fits held plain all = absurd cc
    kind_read kinds.Cast items fits held plain all = absurd cc

-- ---- all

neither : (a b : Bool) → not (a || b) ≡ true → a ≡ false
neither true b e = absurd cc
neither false b e = refl

same_entry : (e f : Entry) (o : Option Entry) → o ≡ Some e → o ≡ Some f → e ≡ f
same_entry e f o h g = let w = sym h ∙ g in cc

pub plain_is_read : PlainIsRead
plain_is_read look features op fits plain held =
    let listed = entry_of features op.code fits.kind fits.listed in
    let same : plain.0.kind ≡ fits.kind = ap (λ (e : Entry). e.kind) (same_entry plain.0 listed.0 (find_code op.code.prefix op.code.number) plain.1 listed.1) ∙ listed.2 in
    let labels : holds_labels fits.kind ≡ false = subst (λ (k : Kind). holds_labels k ≡ false) same (neither (holds_labels plain.0.kind) (is_no_step plain.0.flow) plain.2) in
    kind_read look op.code features fits.kind op.items fits.items held labels (λ p. subst (λ (k : Kind). reads p k op.code ≡ true) same (passed p))
  where
    passed : (p : Parts) → reads p plain.0.kind op.code ≡ true
    passed p = (let w = table_holds (plain_test p) (plain_passes p) op.code.prefix op.code.number plain.0 plain.1 in (rw plain.2 at w))
