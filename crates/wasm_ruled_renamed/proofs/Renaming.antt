-- Lemmas: operators that met the rules meet them, renamed, where what they name has its image.
use Rattle.std.specs.Prelude.{ℕ, ◌≡◌, ◌==◌, ◌^◌, ◌||◌, ◌&&◌, Bool, true, false, nat_lt, List, [], ◌∷◌, length, map, Option, Some, None, slice_index_or, refl}
use Rattle.std.specs.List.{AllByRecursion, flat_map, list_all}
use Rattle.std.specs.Option.{is_some, option_map}
use Rattle.std.proofs.Common.{ap, sym, ◌∙◌, subst}
use Rattle.std.proofs.lemmas.Bool.{lt-ltb, ltb-true}
use Rattle.std.proofs.lemmas.List.{length-map}
use Rattle.wasm_ruled_normal.specs.wasm_ruled_modules.wasm_module_rules.wasm_modules.wasm_body_grammar.Bodies.{frames_of}
use Rattle.wasm_ruled_normal.specs.wasm_ruled_modules.wasm_module_rules.wasm_modules.wasm_body_grammar.Frames.{Frame, label_count, turned}
use Rattle.wasm_ruled_normal.specs.wasm_ruled_modules.wasm_module_rules.wasm_modules.wasm_body_grammar.Rules.{Around, access_rule, first_in, form_rule, has_wide, has_words, is_segment, room, select_rule, words_rule}
use Rattle.wasm_ruled_normal.specs.wasm_ruled_modules.wasm_module_rules.wasm_modules.wasm_body_grammar.wasm_formats.Stops.{Bounds, Unsupported}
use Rattle.wasm_ruled_normal.specs.wasm_ruled_modules.wasm_module_rules.wasm_modules.wasm_body_grammar.wasm_formats.declared.fault.Form.TheVariants as unsupported
use Rattle.wasm_ruled_normal.specs.wasm_ruled_modules.wasm_module_rules.wasm_modules.wasm_body_grammar.wasm_grammar.Modules as grammar
use Rattle.wasm_ruled_normal.specs.wasm_ruled_modules.wasm_module_rules.wasm_modules.wasm_body_grammar.wasm_grammar.States.{types_of}
use Rattle.wasm_ruled_normal.specs.wasm_ruled_modules.wasm_module_rules.wasm_modules.wasm_body_grammar.wasm_grammar.TypeWords.{heap_of, ref_of, value_of}
use Rattle.wasm_ruled_normal.specs.wasm_ruled_modules.wasm_module_rules.wasm_modules.wasm_body_grammar.wasm_operators.NameLaws.{renamed_name}
use Rattle.wasm_ruled_normal.specs.wasm_ruled_modules.wasm_module_rules.wasm_modules.wasm_body_grammar.wasm_operators.Names.{Name, Renaming, item_names, operator_names, renamed_heap, renamed_item, renamed_operator, renamed_value}
use Rattle.wasm_ruled_normal.specs.wasm_ruled_modules.wasm_module_rules.wasm_modules.wasm_body_grammar.wasm_operators.Renamed.{names_are_renamed}
use Rattle.wasm_ruled_normal.specs.wasm_ruled_modules.wasm_module_rules.wasm_modules.wasm_body_grammar.wasm_operators.Items.{Space, Types, Functions, Tables, Memories, Tags, Globals, ElementSegments, DataSegments, Locals, Labels, Item, Names, Number, S32, S64, Bits, Byte, Bytes, Heap, Block, Access, ManyLabels, ManyValues, ManyClauses}
use Rattle.wasm_ruled_normal.specs.wasm_ruled_modules.wasm_module_rules.wasm_modules.wasm_body_grammar.wasm_operators.declared.block_type.BlockType.TheVariants as blocks
use Rattle.wasm_ruled_normal.specs.wasm_ruled_modules.wasm_module_rules.wasm_modules.wasm_body_grammar.wasm_operators.declared.memory_access.MemoryAccess.{MemoryAccess}
use Rattle.wasm_ruled_normal.specs.wasm_ruled_modules.wasm_module_rules.wasm_modules.wasm_body_grammar.wasm_operators.wasm_ref_types.declared.heap.HeapType.{HeapType}
use Rattle.wasm_ruled_normal.specs.wasm_ruled_modules.wasm_module_rules.wasm_modules.wasm_body_grammar.wasm_operators.wasm_ref_types.declared.heap.HeapType.TheVariants.{Abstract, Concrete, Exact}
use Rattle.wasm_ruled_normal.specs.wasm_ruled_modules.wasm_module_rules.wasm_modules.wasm_body_grammar.wasm_operators.wasm_ref_types.declared.index.UnpackedIndex.TheVariants.{Module, RecGroup, Id}
use Rattle.wasm_ruled_normal.specs.wasm_ruled_modules.wasm_module_rules.wasm_modules.wasm_body_grammar.wasm_operators.wasm_ref_types.declared.value.ValType.{ValType}
use Rattle.wasm_ruled_normal.specs.wasm_ruled_modules.wasm_module_rules.wasm_modules.wasm_body_grammar.wasm_operators.wasm_ref_types.declared.value.ValType.TheVariants as values
use Rattle.wasm_ruled_normal.specs.wasm_ruled_modules.wasm_module_rules.wasm_modules.wasm_body_grammar.wasm_operators.Operators.{Seen, flow_of}
use Rattle.wasm_ruled_normal.specs.wasm_ruled_modules.Rules.{AreOperators}
use Rattle.wasm_ruled_normal.specs.wasm_ruled_modules.wasm_module_rules.Keeps.{first_none, must_holds}
use Rattle.wasm_ruled_normal.proofs.Tests.{Passes, Within, all_split, counted_alike, first_each, has_segment, holds_must, names_within, none_first, passes, tested, within_passes}
use Rattle.wasm_ruled_renamed.specs.Renamed.{IsThere, Keeps, NamesThere, RenamedOperatorsAreRuled, renamed_placed}

-- ---- words

some_mapped : {A B : Type 0} (f : A → B) (o : Option A) → is_some (option_map f o) ≡ is_some o
some_mapped f None = refl
some_mapped f (Some x) = refl

heap_words : (r : Renaming) (ty : HeapType) → is_some (heap_of (renamed_heap r ty)) ≡ is_some (heap_of ty)
heap_words r (Abstract shared ty) = refl
heap_words r (Concrete (Module n)) = refl
heap_words r (Concrete (RecGroup n)) = refl
heap_words r (Concrete (Id id)) = refl
heap_words r (Exact (Module n)) = refl
heap_words r (Exact (RecGroup n)) = refl
heap_words r (Exact (Id id)) = refl

value_words : (r : Renaming) (ty : ValType) → is_some (value_of (renamed_value r ty)) ≡ is_some (value_of ty)
value_words r values.I32 = refl
value_words r values.I64 = refl
value_words r values.F32 = refl
value_words r values.F64 = refl
value_words r values.V128 = refl
value_words r (values.Ref ty) =
    some_mapped _ _ ∙ some_mapped _ (heap_of (renamed_heap r ty.heap_type)) ∙ heap_words r ty.heap_type ∙ sym (some_mapped _ (heap_of ty.heap_type)) ∙ sym (some_mapped _ (ref_of ty))

values_words : (r : Renaming) (tys : List ValType) → list_all (λ (ty : ValType). is_some (value_of ty)) (map (renamed_value r) tys) ≡ list_all (λ (ty : ValType). is_some (value_of ty)) tys
values_words r [] = refl
values_words r (ty ∷ tys) =
    ap (λ (b : Bool). b && list_all (λ (ty : ValType). is_some (value_of ty)) (map (renamed_value r) tys)) (value_words r ty) ∙ ap (λ (b : Bool). is_some (value_of ty) && b) (values_words r tys)

item_words : (r : Renaming) (x : Item) → has_words (renamed_item r x) ≡ has_words x
item_words r (Heap ty) = heap_words r ty
item_words r (Block blocks.Empty) = refl
item_words r (Block (blocks.Value ty)) = value_words r ty
item_words r (Block (blocks.Type n)) = refl
item_words r (ManyValues tys) = values_words r tys
item_words r (Names space n) = refl
item_words r (Number n) = refl
item_words r (S32 z) = refl
item_words r (S64 z) = refl
item_words r (Bits size n) = refl
item_words r (Byte b) = refl
item_words r (Bytes run) = refl
item_words r (Access a) = refl
item_words r (ManyLabels ns) = refl
item_words r (ManyClauses cs) = refl

worded : (r : Renaming) (x : Item) → words_rule x ≡ None → words_rule (renamed_item r x) ≡ None
worded r x e = holds_must (has_words (renamed_item r x)) (Unsupported unsupported.SharedType) (item_words r x ∙ must_holds (has_words x) (Unsupported unsupported.SharedType) e)

-- ---- one type for `select`

selects : (r : Renaming) (x : Item) → select_rule x ≡ None → select_rule (renamed_item r x) ≡ None
selects r (ManyValues tys) e =
    holds_must (length (map (renamed_value r) tys) == 1) (Unsupported unsupported.Select)
    (ap (λ (n : ℕ). n == 1) (length-map tys (renamed_value r)) ∙ must_holds (length tys == 1) (Unsupported unsupported.Select) e)
selects r (Names space n) e = refl
selects r (Number n) e = refl
selects r (S32 z) e = refl
selects r (S64 z) e = refl
selects r (Bits size n) e = refl
selects r (Byte b) e = refl
selects r (Bytes run) e = refl
selects r (Heap ty) e = refl
selects r (Block ty) e = refl
selects r (Access a) e = refl
selects r (ManyLabels ns) e = refl
selects r (ManyClauses cs) e = refl

-- ---- names

segments_stay : (r : Renaming) (names : List Name) → has_segment (map (renamed_name r) names) ≡ has_segment names
segments_stay r [] = refl
segments_stay r (n ∷ names) = ap (λ (b : Bool). is_segment n.0 || b) (segments_stay r names)

module _ (r : Renaming) (a b : Around) (old new : ℕ) (keeps : Keeps r a b) where
  name_within : (labels : ℕ) (space : Space) (n : ℕ) → nat_lt n (room a old labels space) ≡ true → IsThere b new space (r space n) → nat_lt (r space n) (room b new labels space) ≡ true
  name_within labels Types n e lt = lt-ltb (r Types n) (room b new 0 Types) lt
  name_within labels Functions n e lt = lt-ltb (r Functions n) (room b new 0 Functions) lt
  name_within labels Tables n e lt = lt-ltb (r Tables n) (room b new 0 Tables) lt
  name_within labels Memories n e lt = lt-ltb (r Memories n) (room b new 0 Memories) lt
  name_within labels Tags n e lt = lt-ltb (r Tags n) (room b new 0 Tags) lt
  name_within labels Globals n e lt = lt-ltb (r Globals n) (room b new 0 Globals) lt
  name_within labels ElementSegments n e lt = lt-ltb (r ElementSegments n) (room b new 0 ElementSegments) lt
  name_within labels DataSegments n e lt = lt-ltb (r DataSegments n) (room b new 0 DataSegments) lt
  name_within labels Locals n e lt = lt-ltb (r Locals n) new lt
  name_within labels Labels n e lt = ap (λ (m : ℕ). nat_lt m labels) (keeps.labels n) ∙ e

  renamed_within : (labels : ℕ) (names : List Name) → AllByRecursion (Within (room a old labels)) names → AllByRecursion (λ (n : Name). IsThere b new n.0 (r n.0 n.1)) names
      → AllByRecursion (Within (room b new labels)) (map (renamed_name r) names)
  renamed_within labels [] h k = tt
  renamed_within labels (n ∷ names) h k = (name_within labels n.0 n.1 h.0 k.0, renamed_within labels names h.1 k.1)

  -- ---- block types and accesses

  formed : (labels : ℕ) (x : Item) → AllByRecursion (Within (room a old labels)) (item_names x) → form_rule a x ≡ None → form_rule b (renamed_item r x) ≡ None
  formed labels (Block blocks.Empty) h e = refl
  formed labels (Block (blocks.Value ty)) h e = refl
  formed labels (Block (blocks.Type n)) h e = keeps.typed n (ltb-true n (length (types_of a.filled)) h.0) e
  formed labels (Names space n) h e = refl
  formed labels (Number n) h e = refl
  formed labels (S32 z) h e = refl
  formed labels (S64 z) h e = refl
  formed labels (Bits size n) h e = refl
  formed labels (Byte b) h e = refl
  formed labels (Bytes run) h e = refl
  formed labels (Heap ty) h e = refl
  formed labels (Access a) h e = refl
  formed labels (ManyLabels ns) h e = refl
  formed labels (ManyValues tys) h e = refl
  formed labels (ManyClauses cs) h e = refl

  all_formed : (labels : ℕ) (xs : List Item) → AllByRecursion (Within (room a old labels)) (flat_map item_names xs) → first_in (form_rule a) xs ≡ None → first_in (form_rule b) (map (renamed_item r) xs) ≡ None
  all_formed labels [] h e = refl
  all_formed labels (x ∷ xs) h e =
      let names = all_split (Within (room a old labels)) (item_names x) (flat_map item_names xs) h in
      let both = first_none (form_rule a x) (first_in (form_rule a) xs) e in
      none_first (form_rule b (renamed_item r x)) (first_in (form_rule b) (map (renamed_item r) xs)) (formed labels x names.0 both.0) (all_formed labels xs names.1 both.1)

  wider : (aligned wide other fits : Bool) → (wide ≡ true → other ≡ true) → (aligned && (wide || fits)) ≡ true → (aligned && (other || fits)) ≡ true
  wider true true other fits more e = ap (λ (o : Bool). o || fits) (more refl)
  wider true false true fits more e = refl
  wider true false false fits more e = e
  wider false wide other fits more e = absurd cc

  accessed : (x : MemoryAccess) → access_rule a (Access x) ≡ None → access_rule b (renamed_item r (Access x)) ≡ None
  accessed x e =
      let wide : Bool = has_wide (slice_index_or a.filled.memories x.memory None) in
      let other : Bool = has_wide (slice_index_or b.filled.memories (r Memories x.memory) None) in
      holds_must (nat_lt x.align 32 && (other || nat_lt x.offset (2 ^ 32))) Bounds
      (wider (nat_lt x.align 32) wide other (nat_lt x.offset (2 ^ 32)) (keeps.wide x.memory) (must_holds (nat_lt x.align 32 && (wide || nat_lt x.offset (2 ^ 32))) Bounds e))

  reached : (x : Item) → access_rule a x ≡ None → access_rule b (renamed_item r x) ≡ None
  reached (Access x) e = accessed x e
  reached (Names space n) e = refl
  reached (Number n) e = refl
  reached (S32 z) e = refl
  reached (S64 z) e = refl
  reached (Bits size n) e = refl
  reached (Byte b) e = refl
  reached (Bytes run) e = refl
  reached (Heap ty) e = refl
  reached (Block ty) e = refl
  reached (ManyLabels ns) e = refl
  reached (ManyValues tys) e = refl
  reached (ManyClauses cs) e = refl

  -- ---- operators

  renamed_passes : (frames : List Frame) (op : Seen) → AllByRecursion (λ (n : Name). IsThere b new n.0 (r n.0 n.1)) (operator_names op) → Passes a old frames op → Passes b new frames (renamed_operator r op)
  renamed_passes frames op there h =
      let labels = label_count (flow_of op.code) frames in
      let within = names_within (room a old labels) (operator_names op) h.named in
      let is = names_are_renamed r op in record {
        named = within_passes (room b new labels) (operator_names (renamed_operator r op)) (subst (AllByRecursion (Within (room b new labels))) (sym is) (renamed_within labels (operator_names op) within there));
        formed = all_formed labels op.items within h.formed;
        nested = h.nested;
        counted = counted_alike a b (operator_names op) (operator_names (renamed_operator r op)) (ap has_segment is ∙ segments_stay r (operator_names op)) keeps.counted h.counted;
        selects = first_each select_rule select_rule (renamed_item r) (selects r) op.items h.selects;
        worded = first_each words_rule words_rule (renamed_item r) (worded r) op.items h.worded;
        reached = first_each (access_rule a) (access_rule b) (renamed_item r) reached op.items h.reached;
      }

  renamed_ruled : (frames : List Frame) (ops : List grammar.Placed) → AllByRecursion (NamesThere r b new) ops → AreOperators a old frames ops → AreOperators b new frames (map (renamed_placed r) ops)
  renamed_ruled frames [] there h = h
  renamed_ruled frames (o ∷ ops) there h =
      (h.0, tested b new frames (renamed_operator r o.op) (renamed_passes frames o.op there.0 (passes a old frames o.op h.1)), renamed_ruled (frames_of (turned (flow_of o.op.code) frames) frames) ops there.1 h.2)

pub operators_renamed : RenamedOperatorsAreRuled
operators_renamed r a b old new frames ops keeps there h = renamed_ruled r a b old new keeps frames ops there h
