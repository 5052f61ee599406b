-- Lemmas: operators and constant expressions that met the rules meet them, renamed, where each item that they name is in the part.
use Rattle.std.specs.Prelude.{ℕ, ◌≡◌, ◌<◌, ◌==◌, ◌^◌, ◌||◌, ◌&&◌, Bool, true, false, not, nat_lt, List, [], ◌∷◌, length, map, Option, Some, None, slice_index_or, refl, if◌then◌else◌}
use Rattle.std.specs.List.{AllByRecursion, flat_map, list_all}
use Rattle.std.specs.Option.{is_some, option_map}
use Rattle.std.proofs.Common.{ap, sym, ◌∙◌, subst}
use Rattle.std.proofs.lemmas.Bool.{lt-ltb, ltb-true}
use Rattle.std.proofs.lemmas.List.{length-map}
use Rattle.walrus_forms.specs.declared.value.AbstractHeapType.{AbstractHeapType}
use Rattle.walrus_forms.specs.declared.value.HeapType.TheVariants as words
use Rattle.wasm_body_grammar.specs.Bodies.{frames_of}
use Rattle.wasm_body_grammar.specs.Frames.{Frame, label_count, turned}
use Rattle.wasm_body_grammar.specs.Rules.{Around, access_rule, first_in, form_rule, has_wide, has_words, is_segment, room, select_rule, words_rule}
use Rattle.wasm_formats.specs.Stops.{Bounds, Index, OffsetType, Position, Unsupported}
use Rattle.wasm_formats.specs.declared.fault.Form.TheVariants as unsupported
use Rattle.wasm_formats.specs.declared.fault.Space.TheVariants as spaces
use Rattle.wasm_grammar.specs.Exprs.{Known, gives_address, global_is, heap_test, item_test, items_test, names_address, offset_test, some_operators, space_test}
use Rattle.wasm_grammar.specs.Modules as grammar
use Rattle.wasm_grammar.specs.TypeWords.{abstract_of, heap_of, ref_of, value_of}
use Rattle.wasm_operators.specs.NameLaws.{renamed_name}
use Rattle.wasm_operators.specs.Names.{Name, Renaming, item_names, operator_names, renamed_heap, renamed_item, renamed_operator, renamed_value}
use Rattle.wasm_operators.specs.Renamed.{names_are_renamed}
use Rattle.wasm_operators.specs.Items.{Space, Types, Functions, Tables, Memories, Tags, Globals, ElementSegments, DataSegments, Locals, Labels, Item, Names, Number, S32, S64, Bits, Byte, Bytes, Heap, Block, Access, ManyLabels, ManyValues, ManyClauses}
use Rattle.wasm_operators.specs.declared.block_type.BlockType.TheVariants as blocks
use Rattle.wasm_operators.specs.declared.memory_access.MemoryAccess.{MemoryAccess}
use Rattle.wasm_operators.specs.wasm_ref_types.declared.heap.HeapType.{HeapType}
use Rattle.wasm_operators.specs.wasm_ref_types.declared.heap.HeapType.TheVariants.{Abstract, Concrete, Exact}
use Rattle.wasm_operators.specs.wasm_ref_types.declared.index.UnpackedIndex.TheVariants.{Module, RecGroup, Id}
use Rattle.wasm_operators.specs.wasm_ref_types.declared.value.ValType.{ValType}
use Rattle.wasm_operators.specs.wasm_ref_types.declared.value.ValType.TheVariants as values
use Rattle.wasm_operators.specs.Operators.{Seen, flow_of}
use Rattle.wasm_ruled_modules.specs.Rules.{AreKnown, AreOperators, IsExpr}
use Rattle.wasm_module_rules.specs.Keeps.{first_none, must_holds}
use Rattle.wasm_ruled_normal.proofs.Tests.{Passes, Within, all_split, first_each, has_segment, holds_must, names_within, none_first, passes, tested, within_passes}
use Rattle.wasm_part.specs.Part.{IsIn, Plan, renumbered_placed}
use Rattle.wasm_part.specs.Closed.{BlockServes, ExprIn, NameIn, NumberIn, OperatorIn, PlacedIn, SegmentCounts}

-- ---- words

some_mapped : {A B : Type 0} (f : A → B) (o : Option A) → is_some (option_map f o) ≡ is_some o
some_mapped f None = refl
some_mapped f (Some x) = refl

heap_words : (r : Renaming) (ty : HeapType) → is_some (heap_of (renamed_heap r ty)) ≡ is_some (heap_of ty)
heap_words r (Abstract shared ty) = refl
heap_words r (Concrete (Module n)) = refl
heap_words r (Concrete (RecGroup n)) = refl
heap_words r (Concrete (Id id)) = refl
heap_words r (Exact (Module n)) = refl
heap_words r (Exact (RecGroup n)) = refl
heap_words r (Exact (Id id)) = refl

value_words : (r : Renaming) (ty : ValType) → is_some (value_of (renamed_value r ty)) ≡ is_some (value_of ty)
value_words r values.I32 = refl
value_words r values.I64 = refl
value_words r values.F32 = refl
value_words r values.F64 = refl
value_words r values.V128 = refl
value_words r (values.Ref ty) =
    some_mapped _ _ ∙ some_mapped _ (heap_of (renamed_heap r ty.heap_type)) ∙ heap_words r ty.heap_type ∙ sym (some_mapped _ (heap_of ty.heap_type)) ∙ sym (some_mapped _ (ref_of ty))

values_words : (r : Renaming) (tys : List ValType) → list_all (λ (ty : ValType). is_some (value_of ty)) (map (renamed_value r) tys) ≡ list_all (λ (ty : ValType). is_some (value_of ty)) tys
values_words r [] = refl
values_words r (ty ∷ tys) =
    ap (λ (b : Bool). b && list_all (λ (ty : ValType). is_some (value_of ty)) (map (renamed_value r) tys)) (value_words r ty) ∙ ap (λ (b : Bool). is_some (value_of ty) && b) (values_words r tys)

item_words : (r : Renaming) (x : Item) → has_words (renamed_item r x) ≡ has_words x
item_words r (Heap ty) = heap_words r ty
item_words r (Block blocks.Empty) = refl
item_words r (Block (blocks.Value ty)) = value_words r ty
item_words r (Block (blocks.Type n)) = refl
item_words r (ManyValues tys) = values_words r tys
item_words r (Names space n) = refl
item_words r (Number n) = refl
item_words r (S32 z) = refl
item_words r (S64 z) = refl
item_words r (Bits size n) = refl
item_words r (Byte b) = refl
item_words r (Bytes run) = refl
item_words r (Access a) = refl
item_words r (ManyLabels ns) = refl
item_words r (ManyClauses cs) = refl

worded : (r : Renaming) (x : Item) → words_rule x ≡ None → words_rule (renamed_item r x) ≡ None
worded r x e = holds_must (has_words (renamed_item r x)) (Unsupported unsupported.SharedType) (item_words r x ∙ must_holds (has_words x) (Unsupported unsupported.SharedType) e)

-- ---- one type for `select`

selects : (r : Renaming) (x : Item) → select_rule x ≡ None → select_rule (renamed_item r x) ≡ None
selects r (ManyValues tys) e =
    holds_must (length (map (renamed_value r) tys) == 1) (Unsupported unsupported.Select)
    (ap (λ (n : ℕ). n == 1) (length-map tys (renamed_value r)) ∙ must_holds (length tys == 1) (Unsupported unsupported.Select) e)
selects r (Names space n) e = refl
selects r (Number n) e = refl
selects r (S32 z) e = refl
selects r (S64 z) e = refl
selects r (Bits size n) e = refl
selects r (Byte b) e = refl
selects r (Bytes run) e = refl
selects r (Heap ty) e = refl
selects r (Block ty) e = refl
selects r (Access a) e = refl
selects r (ManyLabels ns) e = refl
selects r (ManyClauses cs) e = refl

-- ---- operators: in a file `b` each item of the part is there, its memories as wide as they were

-- one of so many items of a space of the file
abbrev pub IsThereIn : Around → Space → ℕ → Type 0
IsThereIn b Locals n = Unit {0}
IsThereIn b Labels n = Unit {0}
IsThereIn b space n = n < room b 0 0 space

pub record CarriesOver (p : Plan) (a b : Around) : Type 0 where
  pub labels : (n : ℕ) → p.renames Labels n ≡ n
  pub locals : (n : ℕ) → p.renames Locals n ≡ n
  pub there : (space : Space) (n : ℕ) → IsIn p space n → IsThereIn b space (p.renames space n)
  pub wide : (n : ℕ) → IsIn p Memories n → has_wide (slice_index_or a.filled.memories n None) ≡ true → has_wide (slice_index_or b.filled.memories (p.renames Memories n) None) ≡ true

module _ (p : Plan) (a b : Around) (locals : ℕ) (carries : CarriesOver p a b) where
  abbrev r : Renaming
  r = p.renames

  name_within : (labels : ℕ) (space : Space) (n : ℕ) → nat_lt n (room a locals labels space) ≡ true → NumberIn p space n → nat_lt (r space n) (room b locals labels space) ≡ true
  name_within labels Types n e h = lt-ltb (r Types n) (room b locals labels Types) (carries.there Types n h)
  name_within labels Functions n e h = lt-ltb (r Functions n) (room b locals labels Functions) (carries.there Functions n h)
  name_within labels Tables n e h = lt-ltb (r Tables n) (room b locals labels Tables) (carries.there Tables n h)
  name_within labels Memories n e h = lt-ltb (r Memories n) (room b locals labels Memories) (carries.there Memories n h)
  name_within labels Tags n e h = lt-ltb (r Tags n) (room b locals labels Tags) (carries.there Tags n h)
  name_within labels Globals n e h = lt-ltb (r Globals n) (room b locals labels Globals) (carries.there Globals n h)
  name_within labels ElementSegments n e h = lt-ltb (r ElementSegments n) (room b locals labels ElementSegments) (carries.there ElementSegments n h)
  name_within labels DataSegments n e h = lt-ltb (r DataSegments n) (room b locals labels DataSegments) (carries.there DataSegments n h)
  name_within labels Locals n e h = ap (λ (m : ℕ). nat_lt m locals) (carries.locals n) ∙ e
  name_within labels Labels n e h = ap (λ (m : ℕ). nat_lt m labels) (carries.labels n) ∙ e

  renamed_within : (labels : ℕ) (names : List Name) → AllByRecursion (Within (room a locals labels)) names → AllByRecursion (NameIn p) names → AllByRecursion (Within (room b locals labels)) (map (renamed_name r) names)
  renamed_within labels [] h k = tt
  renamed_within labels (n ∷ names) h k = (name_within labels n.0 n.1 h.0 k.0, renamed_within labels names h.1 k.1)

  -- ---- data segments

  segments_stay : (names : List Name) → has_segment (map (renamed_name r) names) ≡ has_segment names
  segments_stay [] = refl
  segments_stay (n ∷ names) = ap (λ (b : Bool). is_segment n.0 || b) (segments_stay names)

  counts : (c s : Bool) → (s ≡ true → c ≡ true) → (c || not s) ≡ true
  counts true s h = refl
  counts false true h = h refl
  counts false false h = refl

  -- ---- block types and accesses

  formed : (x : Item) → BlockServes p a b x → form_rule a x ≡ None → form_rule b (renamed_item r x) ≡ None
  formed (Block blocks.Empty) h e = refl
  formed (Block (blocks.Value ty)) h e = refl
  formed (Block (blocks.Type n)) h e = h e
  formed (Names space n) h e = refl
  formed (Number n) h e = refl
  formed (S32 z) h e = refl
  formed (S64 z) h e = refl
  formed (Bits size n) h e = refl
  formed (Byte b) h e = refl
  formed (Bytes run) h e = refl
  formed (Heap ty) h e = refl
  formed (Access a) h e = refl
  formed (ManyLabels ns) h e = refl
  formed (ManyValues tys) h e = refl
  formed (ManyClauses cs) h e = refl

  all_formed : (xs : List Item) → AllByRecursion (BlockServes p a b) xs → first_in (form_rule a) xs ≡ None → first_in (form_rule b) (map (renamed_item r) xs) ≡ None
  all_formed [] h e = refl
  all_formed (x ∷ xs) h e =
      let both = first_none (form_rule a x) (first_in (form_rule a) xs) e in
      none_first (form_rule b (renamed_item r x)) (first_in (form_rule b) (map (renamed_item r) xs)) (formed x h.0 both.0) (all_formed xs h.1 both.1)

  wider : (aligned wide other fits : Bool) → (wide ≡ true → other ≡ true) → (aligned && (wide || fits)) ≡ true → (aligned && (other || fits)) ≡ true
  wider true true other fits more e = ap (λ (o : Bool). o || fits) (more refl)
  wider true false true fits more e = refl
  wider true false false fits more e = e
  wider false wide other fits more e = absurd cc

  accessed : (x : MemoryAccess) → IsIn p Memories x.memory → access_rule a (Access x) ≡ None → access_rule b (renamed_item r (Access x)) ≡ None
  accessed x h e =
      let wide : Bool = has_wide (slice_index_or a.filled.memories x.memory None) in
      let other : Bool = has_wide (slice_index_or b.filled.memories (r Memories x.memory) None) in
      holds_must (nat_lt x.align 32 && (other || nat_lt x.offset (2 ^ 32))) Bounds
      (wider (nat_lt x.align 32) wide other (nat_lt x.offset (2 ^ 32)) (carries.wide x.memory h) (must_holds (nat_lt x.align 32 && (wide || nat_lt x.offset (2 ^ 32))) Bounds e))

  reached : (x : Item) → AllByRecursion (NameIn p) (item_names x) → access_rule a x ≡ None → access_rule b (renamed_item r x) ≡ None
  reached (Access x) h e = accessed x h.0 e
  reached (Names space n) h e = refl
  reached (Number n) h e = refl
  reached (S32 z) h e = refl
  reached (S64 z) h e = refl
  reached (Bits size n) h e = refl
  reached (Byte b) h e = refl
  reached (Bytes run) h e = refl
  reached (Heap ty) h e = refl
  reached (Block ty) h e = refl
  reached (ManyLabels ns) h e = refl
  reached (ManyValues tys) h e = refl
  reached (ManyClauses cs) h e = refl

  all_reached : (xs : List Item) → AllByRecursion (NameIn p) (flat_map item_names xs) → first_in (access_rule a) xs ≡ None → first_in (access_rule b) (map (renamed_item r) xs) ≡ None
  all_reached [] h e = refl
  all_reached (x ∷ xs) h e =
      let names = all_split (NameIn p) (item_names x) (flat_map item_names xs) h in
      let both = first_none (access_rule a x) (first_in (access_rule a) xs) e in
      none_first (access_rule b (renamed_item r x)) (first_in (access_rule b) (map (renamed_item r) xs)) (reached x names.0 both.0) (all_reached xs names.1 both.1)

  -- ---- operators

  renamed_passes : (frames : List Frame) (op : Seen) → OperatorIn p op → AllByRecursion (BlockServes p a b) op.items → SegmentCounts b.counted op → Passes a locals frames op → Passes b locals frames (renamed_operator r op)
  renamed_passes frames op there serves counted h =
      let labels = label_count (flow_of op.code) frames in
      let within = names_within (room a locals labels) (operator_names op) h.named in
      let is = names_are_renamed r op in record {
        named = within_passes (room b locals labels) (operator_names (renamed_operator r op)) (subst (AllByRecursion (Within (room b locals labels))) (sym is) (renamed_within labels (operator_names op) within there));
        formed = all_formed op.items serves h.formed;
        nested = h.nested;
        counted = holds_must (b.counted || not (has_segment (operator_names (renamed_operator r op)))) Position
            (ap (λ (s : Bool). b.counted || not s) (ap has_segment is ∙ segments_stay (operator_names op)) ∙ counts b.counted (has_segment (operator_names op)) counted);
        selects = first_each select_rule select_rule (renamed_item r) (selects r) op.items h.selects;
        worded = first_each words_rule words_rule (renamed_item r) (worded r) op.items h.worded;
        reached = all_reached op.items there h.reached;
      }

  pub operators_carried : (frames : List Frame) (ops : List grammar.Placed) → AllByRecursion (PlacedIn p a b) ops → AreOperators a locals frames ops → AreOperators b locals frames (map (renumbered_placed r) ops)
  operators_carried frames [] there h = h
  operators_carried frames (o ∷ ops) there h = (
    h.0,
    tested b locals frames (renamed_operator r o.op) (renamed_passes frames o.op there.0.0 there.0.1 there.0.2 (passes a locals frames o.op h.1)),
    operators_carried (frames_of (turned (flow_of o.op.code) frames) frames) ops there.1 h.2,
  )

-- ---- constant expressions: what is known of the items of the part is known of them there

pub record KnowsPart (p : Plan) (k l : Known) : Type 0 where
  pub types : (n : ℕ) → IsIn p Types n → p.renames Types n < l.types
  pub functions : (n : ℕ) → IsIn p Functions n → p.renames Functions n < l.functions
  pub globals : (n : ℕ) → IsIn p Globals n → n < length k.globals → p.renames Globals n < length l.globals

module _ (p : Plan) (k l : Known) (knows : KnowsPart p k l) where
  type_known : (n : ℕ) → IsIn p Types n → nat_lt (p.renames Types n) l.types ≡ true
  type_known n h = lt-ltb (p.renames Types n) l.types (knows.types n h)

  space_known : (space : Space) (n : ℕ) → NumberIn p space n → space_test k space n ≡ None → space_test l space (p.renames space n) ≡ None
  space_known Types n h e = holds_must (nat_lt (p.renames Types n) l.types) (Index spaces.«Type») (type_known n h)
  space_known Functions n h e = holds_must (nat_lt (p.renames Functions n) l.functions) (Index spaces.Function) (lt-ltb (p.renames Functions n) l.functions (knows.functions n h))
  space_known Globals n h e =
      holds_must (nat_lt (p.renames Globals n) (length l.globals)) (Index spaces.Global)
      (lt-ltb (p.renames Globals n) (length l.globals) (knows.globals n h (ltb-true n (length k.globals) (must_holds (nat_lt n (length k.globals)) (Index spaces.Global) e))))
  space_known Tables n h e = refl
  space_known Memories n h e = refl
  space_known Tags n h e = refl
  space_known ElementSegments n h e = refl
  space_known DataSegments n h e = refl
  space_known Locals n h e = refl
  space_known Labels n h e = refl

  abstract_known : (o : Option AbstractHeapType) → heap_test k (option_map words.Abstract o) ≡ None → heap_test l (option_map words.Abstract o) ≡ None
  abstract_known None e = absurd cc
  abstract_known (Some ty) e = refl

  shared_known : (o : Option AbstractHeapType) → heap_test k (option_map words.Shared o) ≡ None → heap_test l (option_map words.Shared o) ≡ None
  shared_known None e = absurd cc
  shared_known (Some ty) e = refl

  heap_known : (ty : HeapType) → AllByRecursion (NameIn p) (item_names (Heap ty)) → heap_test k (heap_of ty) ≡ None → heap_test l (heap_of (renamed_heap p.renames ty)) ≡ None
  heap_known (Abstract false ty) h e = abstract_known (abstract_of ty) e
  heap_known (Abstract true ty) h e = shared_known (abstract_of ty) e
  heap_known (Concrete (Module n)) h e = holds_must (nat_lt (p.renames Types n) l.types) (Index spaces.«Type») (type_known n h.0)
  heap_known (Concrete (RecGroup n)) h e = absurd cc
  heap_known (Concrete (Id id)) h e = absurd cc
  heap_known (Exact (Module n)) h e = holds_must (nat_lt (p.renames Types n) l.types) (Index spaces.«Type») (type_known n h.0)
  heap_known (Exact (RecGroup n)) h e = absurd cc
  heap_known (Exact (Id id)) h e = absurd cc

  item_known : (x : Item) → AllByRecursion (NameIn p) (item_names x) → item_test k x ≡ None → item_test l (renamed_item p.renames x) ≡ None
  item_known (Names space n) h e = space_known space n h.0 e
  item_known (Heap ty) h e = heap_known ty h e
  item_known (Number n) h e = refl
  item_known (S32 z) h e = refl
  item_known (S64 z) h e = refl
  item_known (Bits size n) h e = refl
  item_known (Byte b) h e = refl
  item_known (Bytes run) h e = refl
  item_known (Block ty) h e = refl
  item_known (Access a) h e = refl
  item_known (ManyLabels ns) h e = refl
  item_known (ManyValues tys) h e = refl
  item_known (ManyClauses cs) h e = refl

  items_known : (xs : List Item) → AllByRecursion (NameIn p) (flat_map item_names xs) → items_test k xs ≡ None → items_test l (map (renamed_item p.renames) xs) ≡ None
  items_known [] h e = refl
  items_known (x ∷ xs) h e =
      let names = all_split (NameIn p) (item_names x) (flat_map item_names xs) h in
      let both = first_none (item_test k x) (items_test k xs) e in
      none_first (item_test l (renamed_item p.renames x)) (items_test l (map (renamed_item p.renames) xs)) (item_known x names.0 both.0) (items_known xs names.1 both.1)

  operators_known : (ops : grammar.Expr) → ExprIn p ops → AreKnown k ops → AreKnown l (map (renamed_operator p.renames) ops)
  operators_known [] there h = tt
  operators_known (op ∷ ops) there h = (h.0, items_known op.items there.0 h.1, operators_known ops there.1 h.2)

some_stay : (r : Renaming) (ops : grammar.Expr) → some_operators ops ≡ true → some_operators (map (renamed_operator r) ops) ≡ true
some_stay r [] e = e
some_stay r (op ∷ ops) e = refl

pub expr_carried : (p : Plan) (k l : Known) (ops : grammar.Expr) → KnowsPart p k l → ExprIn p ops → IsExpr k ops → IsExpr l (map (renamed_operator p.renames) ops)
expr_carried p k l ops knows there h = (operators_known p k l knows ops there h.0, some_stay p.renames ops h.1)

-- ---- offsets

module _ (p : Plan) (wide : Bool) (k l : Known)
    (typed : (n : ℕ) → IsIn p Globals n → global_is wide (slice_index_or k.globals n None) ≡ true → global_is wide (slice_index_or l.globals (p.renames Globals n) None) ≡ true) where
  abbrev to : Renaming
  to = p.renames

  names_one : (xs : List Item) → AllByRecursion (NameIn p) (flat_map item_names xs) → names_address wide k xs ≡ true → names_address wide l (map (renamed_item to) xs) ≡ true
  names_one (Names Globals n ∷ []) h e = typed n h.0 e
  names_one [] h e = absurd cc
  names_one (Names Globals n ∷ (x ∷ xs)) h e = absurd cc
  names_one (Names Types n ∷ xs) h e = absurd cc
  names_one (Names Functions n ∷ xs) h e = absurd cc
  names_one (Names Tables n ∷ xs) h e = absurd cc
  names_one (Names Memories n ∷ xs) h e = absurd cc
  names_one (Names Tags n ∷ xs) h e = absurd cc
  names_one (Names ElementSegments n ∷ xs) h e = absurd cc
  names_one (Names DataSegments n ∷ xs) h e = absurd cc
  names_one (Names Locals n ∷ xs) h e = absurd cc
  names_one (Names Labels n ∷ xs) h e = absurd cc
  names_one (Number n ∷ xs) h e = absurd cc
  names_one (S32 z ∷ xs) h e = absurd cc
  names_one (S64 z ∷ xs) h e = absurd cc
  names_one (Bits size n ∷ xs) h e = absurd cc
  names_one (Byte b ∷ xs) h e = absurd cc
  names_one (Bytes run ∷ xs) h e = absurd cc
  names_one (Heap ty ∷ xs) h e = absurd cc
  names_one (Block ty ∷ xs) h e = absurd cc
  names_one (Access a ∷ xs) h e = absurd cc
  names_one (ManyLabels ns ∷ xs) h e = absurd cc
  names_one (ManyValues tys ∷ xs) h e = absurd cc
  names_one (ManyClauses cs ∷ xs) h e = absurd cc

  either : (constant get one other : Bool) → (one ≡ true → other ≡ true) → (constant || (get && one)) ≡ true → (constant || (get && other)) ≡ true
  either true get one other more e = refl
  either false true one other more e = more e
  either false false one other more e = absurd cc

  gives : (op : Seen) → OperatorIn p op → gives_address wide k op ≡ true → gives_address wide l (renamed_operator to op) ≡ true
  gives op h e =
      either (op.code.prefix == 0 && op.code.number == (if wide then 0x42 else 0x41)) (op.code.prefix == 0 && op.code.number == 0x23) (names_address wide k op.items) (names_address wide l (map (renamed_item to) op.items))
      (names_one op.items h) e

  pub offset_carried : (ops : grammar.Expr) → ExprIn p ops → offset_test wide k ops ≡ None → offset_test wide l (map (renamed_operator to) ops) ≡ None
  offset_carried [] h e = refl
  offset_carried (op ∷ []) h e = holds_must (gives_address wide l (renamed_operator to op)) OffsetType (gives op h.0 (must_holds (gives_address wide k op) OffsetType e))
  offset_carried (op ∷ (next ∷ ops)) h e = refl
