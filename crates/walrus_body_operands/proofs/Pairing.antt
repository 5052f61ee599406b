-- Lemmas: operators that are paired by themselves.
use Rattle.std.specs.Prelude.{ℕ, ◌≡◌, ◌≢◌, ◌&&◌, ◌||◌, ◌^◌, nat_lt, not, Bool, true, false, List, [], ◌∷◌, length, Option, Some, None, Result, Ok, Err, refl}
use Rattle.std.specs.Prelude.{slice_get}
use Rattle.std.specs.Option.{is_some, ok_or, option_map}
use Rattle.wasm_ref_types.specs.declared.heap.HeapType.{HeapType}
use Rattle.walrus_forms.specs.declared.value.HeapType.{HeapType as OwnHeap}
use Rattle.std.proofs.Common.{ap, sym, subst, ◌∙◌, inl, inr}
use Rattle.std.proofs.lemmas.Bool.{cases_Bool}
use Rattle.wasm_operators.specs.declared.memory_access.MemoryAccess.{MemoryAccess}
use Rattle.wasm_operators.specs.Items.{Space, Types, Functions, Tables, Memories, Tags, Globals, ElementSegments, DataSegments, Locals, Labels, Item, Names, Number, Byte, Heap, Access}
use Rattle.wasm_operators.specs.declared.entry.Entry.{Entry}
use Rattle.wasm_operators.specs.declared.entry.Flow.{Flow}
use Rattle.wasm_operators.specs.declared.entry.Flow.TheVariants as flows
use Rattle.wasm_operators.specs.declared.op_code.OpCode.{OpCode}
use Rattle.wasm_operators.specs.Operators.{flow_in}
use Rattle.wasm_formats.specs.Stops.{Trouble, Index, Position, Bounds}
use Rattle.walrus_body_steps.specs.wasm_grammar.Values.{must, first_of}
use Rattle.walrus_body_steps.specs.wasm_body_grammar.Rules.{space_of, is_segment}
use Rattle.walrus_body_steps.specs.wasm_normal_form.Roles.{Runs, role_in}
use Rattle.walrus_index_maps.specs.declared.space.Space.{Space as Mapped}
use Rattle.walrus_index_maps.specs.declared.space.Space.TheVariants as mapped
use Rattle.walrus_instr.specs.declared.instr.Instr.{Instr}
use Rattle.walrus_instr.specs.declared.memory.MemArg.{MemArg}
use Rattle.walrus_operators.specs.declared.immediates.Immediates.{Immediates}
use Rattle.walrus_operators.specs.declared.immediates.Immediates.TheVariants as imm
use Rattle.walrus_operators.specs.declared.operator.Operator.{Operator}
use Rattle.walrus_operators.specs.Immediates.{items_of, kind_is}
use Rattle.walrus_operators.specs.Operators.{seen}
use Rattle.walrus_pairing.specs.Plain.{holds_labels, is_no_step}
use Rattle.walrus_pairing.proofs.Answered.{plain_is_answered}
use Rattle.walrus_body_steps.specs.walrus_codes.Access.{simd_at}
use Rattle.walrus_pairing.specs.declared.error.PairError.{PairError}
use Rattle.walrus_pairing.specs.declared.error.PairError.TheVariants as pairs
use Rattle.walrus_pairing.specs.Looks.{Look, Or, ◌>>=◌, found}
use Rattle.walrus_pairing.specs.Types.{read_heap}
use Rattle.walrus_pairing.specs.Read.{name_at, names_at, counted_at, heap_at, arg_of, simd_access, access_at, of_items, instr_at}
use Rattle.walrus_body_steps.specs.walrus_body_env.declared.error.BodyError.{BodyError}
use Rattle.walrus_body_steps.specs.walrus_body_nesting.Faults.{Fails}
use Rattle.walrus_body_steps.specs.walrus_body_rules.Sights.{Sight, look, room}
use Rattle.walrus_body_steps.specs.walrus_body_rules.Rules.{has_wide, items_test}
use Rattle.walrus_body_steps.specs.Meanings.{RunsAs}
use Rattle.walrus_body_operands.specs.Asked.{Meets, IsPaired, pair_fault, space_in, index_test, heap_test}
use Rattle.walrus_body_operands.specs.Listed.{RunsListed, segment_named, accessed, names_alone}
use Rattle.walrus_body_operands.proofs.Told.{Told, seen_in, refused, then_told}
use Rattle.walrus_body_operands.proofs.Tests.{first_none, first_assoc, uncounted, items_are}

some_same : (a b : MemoryAccess) → ◌≡◌ {A = Option MemoryAccess} (Some a) (Some b) → a ≡ b
some_same a b e = cc

or_none : (b : Bool) → b || false ≡ true → b ≡ true
or_none true is = refl
or_none false is = is

-- ---- none is without an instruction

no_step : (f : Flow) → role_in (Some f) ≡ Runs → is_no_step f ≡ false
no_step flows.Passes e = absurd cc
no_step flows.Goes e = refl
no_step flows.Traps e = refl
no_step flows.OpensBlock e = refl
no_step flows.OpensLoop e = refl
no_step flows.OpensIf e = refl
no_step flows.OpensTry e = refl
no_step flows.OpensTryTable e = refl
no_step flows.Else e = absurd cc
no_step flows.Catch e = absurd cc
no_step flows.CatchAll e = absurd cc
no_step flows.Delegate e = absurd cc
no_step flows.End e = absurd cc
no_step flows.Branches e = refl
no_step flows.Chooses e = refl
no_step flows.Selects e = refl
no_step flows.Returns e = refl
no_step flows.Calls e = refl
no_step flows.CallsIndirectly e = refl
no_step flows.TailCalls e = refl
no_step flows.TailCallsIndirectly e = refl
no_step flows.Throws e = refl
no_step flows.ThrowsOrTraps e = refl

neither : (a b : Bool) → a ≡ false → b ≡ false → not (a || b) ≡ true
neither a b e f = rw (e, f) refl

pub answered : (look : Look) (op : Operator) → RunsListed op → holds_labels (kind_is op.immediates) ≡ false → instr_at look (seen op) ≢ Ok None
answered look op runs plain =
    let listed = runs.0 in
    let flow : role_in (Some listed.0.flow) ≡ Runs = ap (λ (o : Option Entry). role_in (flow_in o)) (sym listed.1) ∙ runs.1 in
    let labels : holds_labels listed.0.kind ≡ false = ap holds_labels listed.2 ∙ plain in
    plain_is_answered look op listed.0 listed.1 (neither (holds_labels listed.0.kind) (is_no_step listed.0.flow) labels (no_step listed.0.flow flow)) listed.2

-- ---- names that are found are there

told_at : (xs : List ℕ) (n : ℕ) (space : Mapped) → Told (must (nat_lt n (length xs)) (Index (space_in space))) (ok_or (slice_get xs n) (pairs.Unknown space))
told_at xs n space = elim (seen_in xs n) as (λ _. Told (must (nat_lt n (length xs)) (Index (space_in space))) (ok_or (slice_get xs n) (pairs.Unknown space))) [
  | inl h ↦ rw (h.1, h.2) refl
  | inr h ↦ rw (h.0, h.1) (λ offset. refl)
]

told_name : (s : Sight) (space : Space) (n : ℕ) → Told (index_test s space n) (found (look s) space n)
told_name s Types n = told_at s.ids.types n mapped.«Type»
told_name s Functions n = told_at s.ids.functions n mapped.Function
told_name s Tables n = told_at s.ids.tables n mapped.Table
told_name s Memories n = told_at s.ids.memories n mapped.Memory
told_name s Tags n = told_at s.ids.tags n mapped.Tag
told_name s Globals n = told_at s.ids.globals n mapped.Global
told_name s ElementSegments n = told_at s.ids.elements n mapped.Element
told_name s DataSegments n = told_at s.ids.segments n mapped.Data
told_name s Locals n = told_at (s.ids.locals s.function) n mapped.Local
told_name s Labels n = told_at [] n mapped.Label

pub fails_first : (t u : Option Trouble) (offset : ℕ) (b : BodyError) → Fails t offset b → Fails (first_of t u) offset b
fails_first None u offset b h = absurd h
fails_first (Some x) u offset b h = h

told_bind : {A B : Type 0} (t u : Option Trouble) (r : Or A) (f : A → Or B) → Told t r → ((x : A) → Told u (f x)) → Told (first_of t u) (r >>= f)
told_bind t u (Ok x) f told later = subst (λ (v : Option Trouble). Told (first_of v u) (f x)) (sym told) (later x)
told_bind t u (Err e) f told later = λ offset. fails_first t u offset (pair_fault e offset) (told offset)

told_same : {A : Type 0} (t u : Option Trouble) (r : Or A) → t ≡ u → Told t r → Told u r
told_same t u r e told = subst (λ (v : Option Trouble). Told v r) e told

told_arg : (a : MemoryAccess) → Told (must (nat_lt a.align 32) Bounds) (arg_of a)
told_arg a = elim (cases_Bool (nat_lt a.align 32)) as (λ _. Told (must (nat_lt a.align 32) Bounds) (arg_of a)) [
  | inl h ↦ rw h refl
  | inr h ↦ rw h (λ offset. refl)
]

-- ---- what is asked of them

module _ (s : Sight) (labels : ℕ) (code : OpCode) where
  abbrev asked : List Item → Option Trouble
  asked items = items_test s labels (record { code = code; items = items })

  -- the test of one name, of two, of none
  pub one_test : (space : Space) (n : ℕ) → is_segment space ≡ false → room s labels space ≡ room s 0 space → asked (Names space n ∷ []) ≡ index_test s space n
  one_test space n free same =
      let t = index_test s space n in
      items_are s labels (record { code = code; items = Names space n ∷ [] }) (free, tt) ∙ first_none _ ∙ first_none _ ∙ ap (λ (k : ℕ). must (nat_lt n k) (Index (space_of space))) same

  two_tests : (x y : Space) (m n : ℕ) → is_segment x ≡ false → is_segment y ≡ false → room s labels x ≡ room s 0 x → room s labels y ≡ room s 0 y
      → first_of (index_test s x m) (index_test s y n) ≡ asked (Names x m ∷ Names y n ∷ [])
  two_tests x y m n free too same also =
      sym (items_are s labels (record { code = code; items = Names x m ∷ Names y n ∷ [] }) (free, (too, tt)) ∙ first_none _
      ∙ ap (λ (k : ℕ). first_of (must (nat_lt m k) (Index (space_of x))) (first_of (must (nat_lt n (room s labels y)) (Index (space_of y))) None)) same
      ∙ ap (λ (k : ℕ). first_of (index_test s x m) (first_of (must (nat_lt n k) (Index (space_of y))) None)) also
      ∙ ap (λ (t : Option Trouble). first_of (index_test s x m) t) (first_none (index_test s y n)))

  no_test : first_of (must (s.has_data_count || not false) Position) None ≡ None
  no_test = ap (λ (t : Option Trouble). first_of t None) (uncounted s.has_data_count false refl)

  pub plain_told : (x : Immediates) → names_alone x ≡ true → Told (asked (items_of x)) (of_items (look s) code (items_of x))
  plain_told imm.Bare alone = no_test
  plain_told (imm.Block ty) alone = absurd cc
  plain_told (imm.TryTable ty cs) alone = absurd cc
  plain_told (imm.Tag n) alone = then_told (index_test s Tags n) (asked (Names Tags n ∷ [])) (found (look s) Tags n) (λ id. name_at code Tags id) (sym (one_test Tags n refl refl)) (told_name s Tags n)
  plain_told (imm.Label n) alone = absurd cc
  plain_told (imm.BrTable ns n) alone = absurd cc
  plain_told (imm.Function n) alone = then_told (index_test s Functions n) (asked (Names Functions n ∷ [])) (found (look s) Functions n) (λ id. name_at code Functions id) (sym (one_test Functions n refl refl)) (told_name s Functions n)
  plain_told (imm.TypeTable m n) alone =
      told_same (first_of (index_test s Types m) (index_test s Tables n)) (asked (Names Types m ∷ Names Tables n ∷ [])) (of_items (look s) code (Names Types m ∷ Names Tables n ∷ [])) (two_tests Types Tables m n refl refl refl refl)
      (told_bind (index_test s Types m) (index_test s Tables n) (found (look s) Types m) (λ i. found (look s) Tables n >>= λ j. Ok (names_at code Types i Tables j)) (told_name s Types m)
      (λ i. then_told (index_test s Tables n) (index_test s Tables n) (found (look s) Tables n) (λ j. names_at code Types i Tables j) refl (told_name s Tables n)))
  plain_told (imm.Type n) alone = then_told (index_test s Types n) (asked (Names Types n ∷ [])) (found (look s) Types n) (λ id. name_at code Types id) (sym (one_test Types n refl refl)) (told_name s Types n)
  plain_told (imm.Select tys) alone = absurd cc
  plain_told (imm.Local n) alone = then_told (index_test s Locals n) (asked (Names Locals n ∷ [])) (found (look s) Locals n) (λ id. name_at code Locals id) (sym (one_test Locals n refl refl)) (told_name s Locals n)
  plain_told (imm.Global n) alone = then_told (index_test s Globals n) (asked (Names Globals n ∷ [])) (found (look s) Globals n) (λ id. name_at code Globals id) (sym (one_test Globals n refl refl)) (told_name s Globals n)
  plain_told (imm.Table n) alone = then_told (index_test s Tables n) (asked (Names Tables n ∷ [])) (found (look s) Tables n) (λ id. name_at code Tables id) (sym (one_test Tables n refl refl)) (told_name s Tables n)
  plain_told (imm.Access a) alone = absurd cc
  plain_told (imm.Memory n) alone = then_told (index_test s Memories n) (asked (Names Memories n ∷ [])) (found (look s) Memories n) (λ id. name_at code Memories id) (sym (one_test Memories n refl refl)) (told_name s Memories n)
  plain_told (imm.I32 z) alone = no_test
  plain_told (imm.I64 z) alone = no_test
  plain_told (imm.F32 x) alone = no_test
  plain_told (imm.F64 x) alone = no_test
  plain_told (imm.Heap ty) alone = absurd cc
  plain_told (imm.DataMemory m n) alone = absurd cc
  plain_told (imm.Data n) alone = absurd cc
  plain_told (imm.MemoryMemory m n) alone =
      told_same (first_of (index_test s Memories m) (index_test s Memories n)) (asked (Names Memories m ∷ Names Memories n ∷ [])) (of_items (look s) code (Names Memories m ∷ Names Memories n ∷ [])) (two_tests Memories Memories m n refl refl refl refl)
      (told_bind (index_test s Memories m) (index_test s Memories n) (found (look s) Memories m) (λ i. found (look s) Memories n >>= λ j. Ok (names_at code Memories i Memories j)) (told_name s Memories m)
      (λ i. then_told (index_test s Memories n) (index_test s Memories n) (found (look s) Memories n) (λ j. names_at code Memories i Memories j) refl (told_name s Memories n)))
  plain_told (imm.ElementTable m n) alone =
      told_same (first_of (index_test s ElementSegments m) (index_test s Tables n)) (asked (Names ElementSegments m ∷ Names Tables n ∷ [])) (of_items (look s) code (Names ElementSegments m ∷ Names Tables n ∷ [])) (two_tests ElementSegments Tables m n refl refl refl refl)
      (told_bind (index_test s ElementSegments m) (index_test s Tables n) (found (look s) ElementSegments m) (λ i. found (look s) Tables n >>= λ j. Ok (names_at code ElementSegments i Tables j)) (told_name s ElementSegments m)
      (λ i. then_told (index_test s Tables n) (index_test s Tables n) (found (look s) Tables n) (λ j. names_at code ElementSegments i Tables j) refl (told_name s Tables n)))
  plain_told (imm.Element n) alone = then_told (index_test s ElementSegments n) (asked (Names ElementSegments n ∷ [])) (found (look s) ElementSegments n) (λ id. name_at code ElementSegments id) (sym (one_test ElementSegments n refl refl)) (told_name s ElementSegments n)
  plain_told (imm.TableTable m n) alone =
      told_same (first_of (index_test s Tables m) (index_test s Tables n)) (asked (Names Tables m ∷ Names Tables n ∷ [])) (of_items (look s) code (Names Tables m ∷ Names Tables n ∷ [])) (two_tests Tables Tables m n refl refl refl refl)
      (told_bind (index_test s Tables m) (index_test s Tables n) (found (look s) Tables m) (λ i. found (look s) Tables n >>= λ j. Ok (names_at code Tables i Tables j)) (told_name s Tables m)
      (λ i. then_told (index_test s Tables n) (index_test s Tables n) (found (look s) Tables n) (λ j. names_at code Tables i Tables j) refl (told_name s Tables n)))
  plain_told (imm.TypeNumber m n) alone =
      then_told (index_test s Types m) (asked (Names Types m ∷ Number n ∷ [])) (found (look s) Types m) (λ ty. counted_at code ty n)
      (sym (items_are s labels (record { code = code; items = Names Types m ∷ Number n ∷ [] }) (refl, tt) ∙ first_none _ ∙ first_none _)) (told_name s Types m)
  plain_told (imm.TypeData m n) alone = absurd cc
  plain_told (imm.TypeElement m n) alone =
      told_same (first_of (index_test s Types m) (index_test s ElementSegments n)) (asked (Names Types m ∷ Names ElementSegments n ∷ [])) (of_items (look s) code (Names Types m ∷ Names ElementSegments n ∷ [])) (two_tests Types ElementSegments m n refl refl refl refl)
      (told_bind (index_test s Types m) (index_test s ElementSegments n) (found (look s) Types m) (λ i. found (look s) ElementSegments n >>= λ j. Ok (names_at code Types i ElementSegments j)) (told_name s Types m)
      (λ i. then_told (index_test s ElementSegments n) (index_test s ElementSegments n) (found (look s) ElementSegments n) (λ j. names_at code Types i ElementSegments j) refl (told_name s ElementSegments n)))
  plain_told (imm.TypeType m n) alone =
      told_same (first_of (index_test s Types m) (index_test s Types n)) (asked (Names Types m ∷ Names Types n ∷ [])) (of_items (look s) code (Names Types m ∷ Names Types n ∷ [])) (two_tests Types Types m n refl refl refl refl)
      (told_bind (index_test s Types m) (index_test s Types n) (found (look s) Types m) (λ i. found (look s) Types n >>= λ j. Ok (names_at code Types i Types j)) (told_name s Types m)
      (λ i. then_told (index_test s Types n) (index_test s Types n) (found (look s) Types n) (λ j. names_at code Types i Types j) refl (told_name s Types n)))
  plain_told (imm.Cast b n from to) alone = absurd cc
  plain_told (imm.Vector bytes) alone = no_test
  plain_told (imm.Lane b) alone = no_test
  plain_told (imm.AccessLane a b) alone = absurd cc
  plain_told imm.Zero alone = no_test

  -- ---- with a data count

  abbrev pub count_test : Option Trouble
  count_test = must (s.has_data_count || false) Position

  -- the names that are tested before it
  pub record ToldFirst (x : Immediates) (later : Option Trouble) : Type 0 where
    pub first : Option Trouble
    pub test : asked (items_of x) ≡ first_of first later
    pub told : Told first (of_items (look s) code (items_of x))

  segment_pair : (x y : Space) (m n : ℕ) → (either_segment : is_segment x || (is_segment y || false) ≡ true) → room s labels x ≡ room s 0 x → room s labels y ≡ room s 0 y
      → asked (Names x m ∷ Names y n ∷ []) ≡ first_of (first_of (index_test s x m) (index_test s y n)) count_test
  segment_pair x y m n is same also =
      let d = must (s.has_data_count || not (is_segment x || (is_segment y || false))) Position in
      ap (λ (k : ℕ). first_of (first_of (must (nat_lt m k) (Index (space_of x))) (first_of (must (nat_lt n (room s labels y)) (Index (space_of y))) None)) (first_of d None)) same
      ∙ ap (λ (k : ℕ). first_of (first_of (index_test s x m) (first_of (must (nat_lt n k) (Index (space_of y))) None)) (first_of d None)) also
      ∙ ap (λ (t : Option Trouble). first_of (first_of (index_test s x m) t) (first_of d None)) (first_none (index_test s y n))
      ∙ ap (λ (t : Option Trouble). first_of (first_of (index_test s x m) (index_test s y n)) t) (first_none d)
      ∙ ap (λ (b : Bool). first_of (first_of (index_test s x m) (index_test s y n)) (must (s.has_data_count || not b) Position)) is

  told_pair : (x y : Space) (m n : ℕ) → Told (first_of (index_test s x m) (index_test s y n)) (found (look s) x m >>= λ i. found (look s) y n >>= λ j. Ok (names_at code x i y j))
  told_pair x y m n = told_bind (index_test s x m) (index_test s y n) (found (look s) x m) (λ i. found (look s) y n >>= λ j. Ok (names_at code x i y j)) (told_name s x m)
      (λ i. then_told (index_test s y n) (index_test s y n) (found (look s) y n) (λ j. names_at code x i y j) refl (told_name s y n))

  pub segment_told : (x : Immediates) → segment_named x ≡ true → ToldFirst x count_test
  segment_told imm.Bare is = absurd cc
  segment_told (imm.Block ty) is = absurd cc
  segment_told (imm.TryTable ty cs) is = absurd cc
  segment_told (imm.Tag n) is = absurd cc
  segment_told (imm.Label n) is = absurd cc
  segment_told (imm.BrTable ns n) is = absurd cc
  segment_told (imm.Function n) is = absurd cc
  segment_told (imm.TypeTable m n) is = absurd cc
  segment_told (imm.Type n) is = absurd cc
  segment_told (imm.Select tys) is = absurd cc
  segment_told (imm.Local n) is = absurd cc
  segment_told (imm.Global n) is = absurd cc
  segment_told (imm.Table n) is = absurd cc
  segment_told (imm.Access a) is = absurd cc
  segment_told (imm.Memory n) is = absurd cc
  segment_told (imm.I32 z) is = absurd cc
  segment_told (imm.I64 z) is = absurd cc
  segment_told (imm.F32 x) is = absurd cc
  segment_told (imm.F64 x) is = absurd cc
  segment_told (imm.Heap ty) is = absurd cc
  segment_told (imm.DataMemory m n) is = record {
    first = first_of (index_test s DataSegments m) (index_test s Memories n);
    test = segment_pair DataSegments Memories m n refl refl refl;
    told = told_pair DataSegments Memories m n;
  }
  segment_told (imm.Data n) is = record {
    first = index_test s DataSegments n;
    test = ap (λ (t : Option Trouble). first_of t (first_of count_test None)) (first_none (index_test s DataSegments n)) ∙ ap (λ (t : Option Trouble). first_of (index_test s DataSegments n) t) (first_none count_test);
    told = then_told (index_test s DataSegments n) (index_test s DataSegments n) (found (look s) DataSegments n) (λ id. name_at code DataSegments id) refl (told_name s DataSegments n);
  }
  segment_told (imm.MemoryMemory m n) is = absurd cc
  segment_told (imm.ElementTable m n) is = absurd cc
  segment_told (imm.Element n) is = absurd cc
  segment_told (imm.TableTable m n) is = absurd cc
  segment_told (imm.TypeNumber m n) is = absurd cc
  segment_told (imm.TypeData m n) is = record {
    first = first_of (index_test s Types m) (index_test s DataSegments n);
    test = segment_pair Types DataSegments m n refl refl refl;
    told = told_pair Types DataSegments m n;
  }
  segment_told (imm.TypeElement m n) is = absurd cc
  segment_told (imm.TypeType m n) is = absurd cc
  segment_told (imm.Cast b n from to) is = absurd cc
  segment_told (imm.Vector bytes) is = absurd cc
  segment_told (imm.Lane b) is = absurd cc
  segment_told (imm.AccessLane a b) is = absurd cc
  segment_told imm.Zero is = absurd cc

  -- ---- with an access to memory

  abbrev pub within_test : MemoryAccess → Option Trouble
  within_test a = must (has_wide s (look s Memories a.memory) || nat_lt a.offset (2 ^ 32)) Bounds

  must_both : (a b : Bool) (t : Trouble) → must (a && b) t ≡ first_of (must a t) (must b t)
  must_both true b t = refl
  must_both false b t = refl

  abbrev placed_test : MemoryAccess → Option Trouble
  placed_test a = first_of (index_test s Memories a.memory) (must (nat_lt a.align 32) Bounds)

  access_test : (a : MemoryAccess) → first_of (first_of (index_test s Memories a.memory) None) (first_of (must (nat_lt a.align 32 && (has_wide s (look s Memories a.memory) || nat_lt a.offset (2 ^ 32))) Bounds) None)
      ≡ first_of (placed_test a) (within_test a)
  access_test a =
      let i = index_test s Memories a.memory in
      let b = must (nat_lt a.align 32 && (has_wide s (look s Memories a.memory) || nat_lt a.offset (2 ^ 32))) Bounds in
      ap (λ (t : Option Trouble). first_of t (first_of b None)) (first_none i) ∙ ap (λ (t : Option Trouble). first_of i t) (first_none b)
      ∙ ap (λ (t : Option Trouble). first_of i t) (must_both (nat_lt a.align 32) (has_wide s (look s Memories a.memory) || nat_lt a.offset (2 ^ 32)) Bounds)
      ∙ sym (first_assoc i (must (nat_lt a.align 32) Bounds) (within_test a))

  told_access : (a : MemoryAccess) (make : ℕ → MemArg → Option Instr) → Told (placed_test a) (found (look s) Memories a.memory >>= λ memory. arg_of a >>= λ arg. Ok (make memory arg))
  told_access a make = told_bind (index_test s Memories a.memory) (must (nat_lt a.align 32) Bounds) (found (look s) Memories a.memory) (λ memory. arg_of a >>= λ arg. Ok (make memory arg)) (told_name s Memories a.memory)
      (λ memory. then_told (must (nat_lt a.align 32) Bounds) (must (nat_lt a.align 32) Bounds) (arg_of a) (make memory) refl (told_arg a))

  pub access_told : (x : Immediates) (a : MemoryAccess) → accessed x ≡ Some a → ToldFirst x (within_test a)
  access_told imm.Bare a is = absurd cc
  access_told (imm.Block ty) a is = absurd cc
  access_told (imm.TryTable ty cs) a is = absurd cc
  access_told (imm.Tag n) a is = absurd cc
  access_told (imm.Label n) a is = absurd cc
  access_told (imm.BrTable ns n) a is = absurd cc
  access_told (imm.Function n) a is = absurd cc
  access_told (imm.TypeTable m n) a is = absurd cc
  access_told (imm.Type n) a is = absurd cc
  access_told (imm.Select tys) a is = absurd cc
  access_told (imm.Local n) a is = absurd cc
  access_told (imm.Global n) a is = absurd cc
  access_told (imm.Table n) a is = absurd cc
  access_told (imm.Access b) a is = subst (λ (c : MemoryAccess). ToldFirst (imm.Access b) (within_test c)) (some_same b a is) (record {
    first = placed_test b;
    test = items_are s labels (record { code = code; items = Access b ∷ [] }) (refl, tt) ∙ access_test b;
    told = told_access b (access_at code);
  })
  access_told (imm.Memory n) a is = absurd cc
  access_told (imm.I32 z) a is = absurd cc
  access_told (imm.I64 z) a is = absurd cc
  access_told (imm.F32 x) a is = absurd cc
  access_told (imm.F64 x) a is = absurd cc
  access_told (imm.Heap ty) a is = absurd cc
  access_told (imm.DataMemory m n) a is = absurd cc
  access_told (imm.Data n) a is = absurd cc
  access_told (imm.MemoryMemory m n) a is = absurd cc
  access_told (imm.ElementTable m n) a is = absurd cc
  access_told (imm.Element n) a is = absurd cc
  access_told (imm.TableTable m n) a is = absurd cc
  access_told (imm.TypeNumber m n) a is = absurd cc
  access_told (imm.TypeData m n) a is = absurd cc
  access_told (imm.TypeElement m n) a is = absurd cc
  access_told (imm.TypeType m n) a is = absurd cc
  access_told (imm.Cast b n from to) a is = absurd cc
  access_told (imm.Vector bytes) a is = absurd cc
  access_told (imm.Lane b) a is = absurd cc
  access_told (imm.AccessLane b lane) a is = subst (λ (c : MemoryAccess). ToldFirst (imm.AccessLane b lane) (within_test c)) (some_same b a is) (record {
    first = placed_test b;
    test = items_are s labels (record { code = code; items = Access b ∷ Byte lane ∷ [] }) (refl, tt) ∙ access_test b;
    told = told_access b (λ memory arg. option_map (simd_access memory arg) (simd_at code (Some lane)));
  })
  access_told imm.Zero a is = absurd cc

  -- the names alone are asked of what accesses none
  abbrev pub behind : Option MemoryAccess → Option Trouble
  behind None = None
  behind (Some a) = within_test a

  told_of : (x : Immediates) (o : Option MemoryAccess) → accessed x ≡ o → names_alone x || is_some o ≡ true → ToldFirst x (behind o)
  told_of x None is alone = record {
    first = asked (items_of x);
    test = sym (first_none (asked (items_of x)));
    told = plain_told x (or_none (names_alone x) alone);
  }
  told_of x (Some a) is alone = access_told x a is

  pub alone_told : (x : Immediates) → names_alone x || is_some (accessed x) ≡ true → ToldFirst x (behind (accessed x))
  alone_told x alone = told_of x (accessed x) refl alone

  -- ---- with a heap type

  pub heap_told_first : (ty : HeapType) → heap_test s ty ≡ None → (own : OwnHeap) → read_heap (look s Types) ty ≡ Ok own → of_items (look s) code (Heap ty ∷ []) ≡ Ok (heap_at code own)
  heap_told_first ty passes own is = rw is refl

-- ---- answers

pub meets : (t : Option Trouble) (paired : Or (Option Instr)) (r : Result Instr BodyError) (offset : ℕ) (P : Instr → Type 0)
    → Told t paired → ((i : Instr) → paired ≡ Ok (Some i) → P i) → IsPaired paired r offset → Meets r t offset P
meets t paired (Ok i) offset P told means is = (subst (Told t) is told, means i is)
meets t paired (Err e) offset P told means is = refused t paired is.0 offset e told is.1 is.2

pub runs_as : (s : Sight) (around : List ℕ) (code : OpCode) (x : Immediates) (i : Instr) → holds_labels (kind_is x) ≡ false
    → instr_at (look s) (record { code = code; items = items_of x }) ≡ Ok (Some i) → RunsAs s around code (items_of x) i
runs_as s around code imm.Bare i plain is = is
runs_as s around code (imm.Block ty) i plain is = absurd cc
runs_as s around code (imm.TryTable ty cs) i plain is = absurd cc
runs_as s around code (imm.Tag n) i plain is = is
runs_as s around code (imm.Label n) i plain is = absurd cc
runs_as s around code (imm.BrTable ns n) i plain is = absurd cc
runs_as s around code (imm.Function n) i plain is = is
runs_as s around code (imm.TypeTable m n) i plain is = is
runs_as s around code (imm.Type n) i plain is = is
runs_as s around code (imm.Select tys) i plain is = is
runs_as s around code (imm.Local n) i plain is = is
runs_as s around code (imm.Global n) i plain is = is
runs_as s around code (imm.Table n) i plain is = is
runs_as s around code (imm.Access a) i plain is = is
runs_as s around code (imm.Memory n) i plain is = is
runs_as s around code (imm.I32 z) i plain is = is
runs_as s around code (imm.I64 z) i plain is = is
runs_as s around code (imm.F32 x) i plain is = is
runs_as s around code (imm.F64 x) i plain is = is
runs_as s around code (imm.Heap ty) i plain is = is
runs_as s around code (imm.DataMemory m n) i plain is = is
runs_as s around code (imm.Data n) i plain is = is
runs_as s around code (imm.MemoryMemory m n) i plain is = is
runs_as s around code (imm.ElementTable m n) i plain is = is
runs_as s around code (imm.Element n) i plain is = is
runs_as s around code (imm.TableTable m n) i plain is = is
runs_as s around code (imm.TypeNumber m n) i plain is = is
runs_as s around code (imm.TypeData m n) i plain is = is
runs_as s around code (imm.TypeElement m n) i plain is = is
runs_as s around code (imm.TypeType m n) i plain is = is
runs_as s around code (imm.Cast b n from to) i plain is = absurd cc
runs_as s around code (imm.Vector bytes) i plain is = is
runs_as s around code (imm.Lane b) i plain is = is
runs_as s around code (imm.AccessLane a b) i plain is = is
runs_as s around code imm.Zero i plain is = is

alone_plain : (x : Immediates) → names_alone x ≡ true → holds_labels (kind_is x) ≡ false
alone_plain imm.Bare is = refl
alone_plain (imm.Block ty) is = absurd cc
alone_plain (imm.TryTable ty cs) is = absurd cc
alone_plain (imm.Tag n) is = refl
alone_plain (imm.Label n) is = absurd cc
alone_plain (imm.BrTable ns n) is = absurd cc
alone_plain (imm.Function n) is = refl
alone_plain (imm.TypeTable m n) is = refl
alone_plain (imm.Type n) is = refl
alone_plain (imm.Select tys) is = absurd cc
alone_plain (imm.Local n) is = refl
alone_plain (imm.Global n) is = refl
alone_plain (imm.Table n) is = refl
alone_plain (imm.Access a) is = absurd cc
alone_plain (imm.Memory n) is = refl
alone_plain (imm.I32 z) is = refl
alone_plain (imm.I64 z) is = refl
alone_plain (imm.F32 x) is = refl
alone_plain (imm.F64 x) is = refl
alone_plain (imm.Heap ty) is = absurd cc
alone_plain (imm.DataMemory m n) is = absurd cc
alone_plain (imm.Data n) is = absurd cc
alone_plain (imm.MemoryMemory m n) is = refl
alone_plain (imm.ElementTable m n) is = refl
alone_plain (imm.Element n) is = refl
alone_plain (imm.TableTable m n) is = refl
alone_plain (imm.TypeNumber m n) is = refl
alone_plain (imm.TypeData m n) is = absurd cc
alone_plain (imm.TypeElement m n) is = refl
alone_plain (imm.TypeType m n) is = refl
alone_plain (imm.Cast b n from to) is = absurd cc
alone_plain (imm.Vector bytes) is = refl
alone_plain (imm.Lane b) is = refl
alone_plain (imm.AccessLane a b) is = absurd cc
alone_plain imm.Zero is = refl

pub segment_plain : (x : Immediates) → segment_named x ≡ true → holds_labels (kind_is x) ≡ false
segment_plain imm.Bare is = absurd cc
segment_plain (imm.Block ty) is = absurd cc
segment_plain (imm.TryTable ty cs) is = absurd cc
segment_plain (imm.Tag n) is = absurd cc
segment_plain (imm.Label n) is = absurd cc
segment_plain (imm.BrTable ns n) is = absurd cc
segment_plain (imm.Function n) is = absurd cc
segment_plain (imm.TypeTable m n) is = absurd cc
segment_plain (imm.Type n) is = absurd cc
segment_plain (imm.Select tys) is = absurd cc
segment_plain (imm.Local n) is = absurd cc
segment_plain (imm.Global n) is = absurd cc
segment_plain (imm.Table n) is = absurd cc
segment_plain (imm.Access a) is = absurd cc
segment_plain (imm.Memory n) is = absurd cc
segment_plain (imm.I32 z) is = absurd cc
segment_plain (imm.I64 z) is = absurd cc
segment_plain (imm.F32 x) is = absurd cc
segment_plain (imm.F64 x) is = absurd cc
segment_plain (imm.Heap ty) is = absurd cc
segment_plain (imm.DataMemory m n) is = refl
segment_plain (imm.Data n) is = refl
segment_plain (imm.MemoryMemory m n) is = absurd cc
segment_plain (imm.ElementTable m n) is = absurd cc
segment_plain (imm.Element n) is = absurd cc
segment_plain (imm.TableTable m n) is = absurd cc
segment_plain (imm.TypeNumber m n) is = absurd cc
segment_plain (imm.TypeData m n) is = refl
segment_plain (imm.TypeElement m n) is = absurd cc
segment_plain (imm.TypeType m n) is = absurd cc
segment_plain (imm.Cast b n from to) is = absurd cc
segment_plain (imm.Vector bytes) is = absurd cc
segment_plain (imm.Lane b) is = absurd cc
segment_plain (imm.AccessLane a b) is = absurd cc
segment_plain imm.Zero is = absurd cc

access_plain : (x : Immediates) (a : MemoryAccess) → accessed x ≡ Some a → holds_labels (kind_is x) ≡ false
access_plain imm.Bare a is = absurd cc
access_plain (imm.Block ty) a is = absurd cc
access_plain (imm.TryTable ty cs) a is = absurd cc
access_plain (imm.Tag n) a is = absurd cc
access_plain (imm.Label n) a is = absurd cc
access_plain (imm.BrTable ns n) a is = absurd cc
access_plain (imm.Function n) a is = absurd cc
access_plain (imm.TypeTable m n) a is = absurd cc
access_plain (imm.Type n) a is = absurd cc
access_plain (imm.Select tys) a is = absurd cc
access_plain (imm.Local n) a is = absurd cc
access_plain (imm.Global n) a is = absurd cc
access_plain (imm.Table n) a is = absurd cc
access_plain (imm.Access c) a is = refl
access_plain (imm.Memory n) a is = absurd cc
access_plain (imm.I32 z) a is = absurd cc
access_plain (imm.I64 z) a is = absurd cc
access_plain (imm.F32 x) a is = absurd cc
access_plain (imm.F64 x) a is = absurd cc
access_plain (imm.Heap ty) a is = absurd cc
access_plain (imm.DataMemory m n) a is = absurd cc
access_plain (imm.Data n) a is = absurd cc
access_plain (imm.MemoryMemory m n) a is = absurd cc
access_plain (imm.ElementTable m n) a is = absurd cc
access_plain (imm.Element n) a is = absurd cc
access_plain (imm.TableTable m n) a is = absurd cc
access_plain (imm.TypeNumber m n) a is = absurd cc
access_plain (imm.TypeData m n) a is = absurd cc
access_plain (imm.TypeElement m n) a is = absurd cc
access_plain (imm.TypeType m n) a is = absurd cc
access_plain (imm.Cast b n from to) a is = absurd cc
access_plain (imm.Vector bytes) a is = absurd cc
access_plain (imm.Lane b) a is = absurd cc
access_plain (imm.AccessLane c b) a is = refl
access_plain imm.Zero a is = absurd cc

alone_of : (x : Immediates) (o : Option MemoryAccess) → accessed x ≡ o → names_alone x || is_some o ≡ true → holds_labels (kind_is x) ≡ false
alone_of x None is alone = alone_plain x (or_none (names_alone x) alone)
alone_of x (Some a) is alone = access_plain x a is

pub alone_then : (x : Immediates) → names_alone x || is_some (accessed x) ≡ true → accessed x ≡ None → names_alone x ≡ true
alone_then x alone none = or_none (names_alone x) (subst (λ (o : Option MemoryAccess). names_alone x || is_some o ≡ true) none alone)

pub either_plain : (x : Immediates) → names_alone x || is_some (accessed x) ≡ true → holds_labels (kind_is x) ≡ false
either_plain x alone = alone_of x (accessed x) refl alone

pub heap_plain : (x : Immediates) (ty : HeapType) → items_of x ≡ Heap ty ∷ [] → holds_labels (kind_is x) ≡ false
heap_plain imm.Bare ty is = refl
heap_plain (imm.Block by) ty is = absurd cc
heap_plain (imm.TryTable by cs) ty is = absurd cc
heap_plain (imm.Tag n) ty is = refl
heap_plain (imm.Label n) ty is = absurd cc
heap_plain (imm.BrTable ns n) ty is = absurd cc
heap_plain (imm.Function n) ty is = refl
heap_plain (imm.TypeTable m n) ty is = refl
heap_plain (imm.Type n) ty is = refl
heap_plain (imm.Select tys) ty is = refl
heap_plain (imm.Local n) ty is = refl
heap_plain (imm.Global n) ty is = refl
heap_plain (imm.Table n) ty is = refl
heap_plain (imm.Access a) ty is = refl
heap_plain (imm.Memory n) ty is = refl
heap_plain (imm.I32 z) ty is = refl
heap_plain (imm.I64 z) ty is = refl
heap_plain (imm.F32 x) ty is = refl
heap_plain (imm.F64 x) ty is = refl
heap_plain (imm.Heap by) ty is = refl
heap_plain (imm.DataMemory m n) ty is = refl
heap_plain (imm.Data n) ty is = refl
heap_plain (imm.MemoryMemory m n) ty is = refl
heap_plain (imm.ElementTable m n) ty is = refl
heap_plain (imm.Element n) ty is = refl
heap_plain (imm.TableTable m n) ty is = refl
heap_plain (imm.TypeNumber m n) ty is = refl
heap_plain (imm.TypeData m n) ty is = refl
heap_plain (imm.TypeElement m n) ty is = refl
heap_plain (imm.TypeType m n) ty is = refl
heap_plain (imm.Cast b n from to) ty is = absurd cc
heap_plain (imm.Vector bytes) ty is = refl
heap_plain (imm.Lane b) ty is = refl
heap_plain (imm.AccessLane a b) ty is = refl
heap_plain imm.Zero ty is = refl

-- ---- what is tested behind the names

passes_then : (t first later : Option Trouble) (paired : Or (Option Instr)) (i : Instr) → t ≡ first_of first later → Told first paired → paired ≡ Ok (Some i) → later ≡ None → t ≡ None
passes_then t first later paired i test told is passes = test ∙ ap (λ (v : Option Trouble). first_of v later) (subst (Told first) is told) ∙ passes

fails_then : (t first later : Option Trouble) (paired : Or (Option Instr)) (i : Instr) (offset : ℕ) (e : BodyError) → t ≡ first_of first later → Told first paired → paired ≡ Ok (Some i)
    → Fails later offset e → Fails t offset e
fails_then t first later paired i offset e test told is fails =
    subst (λ (v : Option Trouble). Fails v offset e) (sym (test ∙ ap (λ (v : Option Trouble). first_of v later) (subst (Told first) is told))) fails

pub fails_before : (t first later : Option Trouble) (paired : Or (Option Instr)) (p : PairError) (offset : ℕ) (e : BodyError) → t ≡ first_of first later → Told first paired → paired ≡ Err p
    → e ≡ pair_fault p offset → Fails t offset e
fails_before t first later paired p offset e test told is same =
    subst (λ (v : Option Trouble). Fails v offset e) (sym test) (fails_first first later offset e (refused first paired p offset e told is same))

pub meets_then : (t first later : Option Trouble) (paired : Or (Option Instr)) (i : Instr) (r : Result Instr BodyError) (offset : ℕ) (P : Instr → Type 0) → t ≡ first_of first later → Told first paired
    → paired ≡ Ok (Some i) → P i → Meets r later offset (λ j. j ≡ i) → Meets r t offset P
meets_then t first later paired i (Ok j) offset P test told is means meets = (passes_then t first later paired i test told is meets.0, subst P (sym meets.1) means)
meets_then t first later paired i (Err e) offset P test told is means meets = fails_then t first later paired i offset e test told is meets
