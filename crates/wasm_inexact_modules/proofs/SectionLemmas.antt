-- Lemmas: what is read of a file's sections holds no exact heap type.
use Rattle.std.specs.Prelude.{ℕ, ◌≡◌, ◌==◌, Bool, true, false, List, [], ◌∷◌, ◌++◌, Option, Some, None, refl}
use Rattle.std.specs.Option.{option_map}
use Rattle.std.specs.List.{AllByRecursion, cons_option, filter_map}
use Rattle.std.proofs.Common.{subst, inl, inr}
use Rattle.wasm_features.specs.declared.WasmFeatures.{WasmFeatures}
use Rattle.wasm_features.specs.Features.{enables, GcTypes}
use Rattle.wasm_reader.specs.Items.{SpellsItems}
use Rattle.wasm_ref_types.specs.declared.value.ValType.{ValType as WrittenValue}
use Rattle.wasm_ref_types.specs.TypeSpellings.{SpellsValue}
use Rattle.wasm_composite_types.specs.declared.field.FieldType.{FieldType as ReadField}
use Rattle.wasm_composite_types.specs.declared.field.StorageType.{StorageType as ReadStorage}
use Rattle.wasm_composite_types.specs.declared.field.StorageType.TheVariants as storages
use Rattle.wasm_composite_types.specs.Spellings.{SpellsComposite, SpellsField, SpellsForm, SpellsStorage}
use Rattle.walrus_forms.specs.declared.value.FieldType.{FieldType}
use Rattle.walrus_forms.specs.declared.value.StorageType.{StorageType}
use Rattle.walrus_forms.specs.declared.value.ValType.{ValType}
use Rattle.walrus_forms.specs.Values.{unpacked}
use Rattle.walrus_forms.specs.Forms.{Form, FunctionForm, StructForm, ArrayForm}
use Rattle.walrus_forms.specs.Kinds.{Kind, declared_kind}
use Rattle.walrus_forms.specs.Records.{TypeGroup}
use Rattle.wasm_grammar.specs.TypeWords.{value_of}
use Rattle.wasm_composite_types.specs.declared.form.CompositeInnerType.{CompositeInnerType}
use Rattle.wasm_composite_types.specs.declared.form.CompositeInnerType.TheVariants.{Func, Array, Struct, Cont}
use Rattle.wasm_types.specs.declared.subtype.SubType.{SubType}
use Rattle.wasm_types.specs.Spellings.{SpellsSub}
use Rattle.walrus_forms.specs.declared.value.StorageType.TheVariants.{Val, I8, I16}
use Rattle.wasm_formats.specs.Bytes.{either_type}
use Rattle.wasm_formats.specs.Joined.{after}
use Rattle.wasm_formats.specs.Led.{led}
use Rattle.wasm_formats.specs.Lists.{SpellsEntries}
use Rattle.wasm_operators.specs.Operators.{Seen}
use Rattle.wasm_grammar.specs.Exprs.{Known, constant, expr}
use Rattle.wasm_grammar.specs.Modules.{Element, Expr, Global, Imported, Module, Own, Segment, Table}
use Rattle.wasm_grammar.specs.States.{State, known, type_count}
use Rattle.wasm_sections.specs.TypeNames.{both, composite_form, field_of, form_of, kind_of, storage_of, told_all}
use Rattle.wasm_sections.specs.TypeSection.{GroupEntry, Measured, behind, explicit, measured, placed, rectype, single, sub_apart, sub_some, sub_wants, type_group}
use Rattle.wasm_sections.specs.Entities.{Entity, FunctionOf, TableOf, MemoryOf, GlobalOf, TagOf, GlobalEntry, ImportEntry, TableEntry, add_entity, add_global, add_import, add_table, entity, global_entry, global_of, global_type, import_entry, import_of, initialised, table_apart, table_entry, table_of, table_some, table_type, table_wants, with_import}
use Rattle.wasm_sections.specs.Segments.{DataEntry, DataForm, ElementEntry, ElementForm, add_data, add_element, data_entry, data_flags, data_form, element_entry, element_flags, element_form, element_of, pass, segment_of}
use Rattle.wasm_sections.specs.Ids.{either_case}
use Rattle.wasm_module_rules.specs.Linked.{Each}
use Rattle.wasm_module_rules.specs.Keeps.{each_push}
use Rattle.wasm_ruled_modules.specs.Keeping.{EntriesKeep, file_kept}
use Rattle.wasm_inexact_modules.specs.Inexact.{InexactElements, InexactExpr, InexactField, InexactForm, InexactGroups, InexactInit, InexactKinds, InexactMode, InexactOperator, InexactOrigin, InexactRef, InexactValue, InexactValues, ReadSectionsAreInexact}
use Rattle.wasm_inexact_modules.proofs.SpellLemmas.{forms_inexact, ref_inexact, told_inexact, value_inexact, word_inexact}

some_is : {A : Type 0} (x y : A) → ◌≡◌ {A = Option A} (Some x) (Some y) → x ≡ y
some_is x y e = cc

mapped : {A B P : Type 0} (f : A → B) (o : Option A) (y : B) → option_map f o ≡ Some y → ((x : A) → o ≡ Some x → f x ≡ y → P) → P
mapped f (Some x) y e k = k x refl (some_is (f x) y e)
mapped f None y e k = absurd cc

both_is : {A B C P : Type 0} (make : A → B → C) (o : Option A) (p : Option B) (c : C) → both make o p ≡ Some c → ((a : A) (b : B) → o ≡ Some a → p ≡ Some b → make a b ≡ c → P) → P
both_is make (Some a) (Some b) c e k = k a b refl refl (some_is (make a b) c e)
both_is make (Some a) None c e k = absurd cc
both_is make None (Some b) c e k = absurd cc
both_is make None None c e k = absurd cc

-- ---- types

values_told : (features : WasmFeatures) (tys : List WrittenValue) (bytes : List ℕ) → SpellsItems (SpellsValue features) bytes tys → (out : List ValType) → told_all value_of tys ≡ Some out → InexactValues out
values_told features [] bytes h out e = subst InexactValues (some_is [] out e) tt
values_told features (ty ∷ tys) bytes h out e = both_is (λ (y : ValType) (ys : List ValType). y ∷ ys) (value_of ty) (told_all value_of tys) out e
    (λ y ys p q is. subst InexactValues is (told_inexact ty y p (word_inexact features h.0 ty h.3), values_told features tys h.1 h.4 ys q))

storage_inexact : (features : WasmFeatures) (bytes : List ℕ) (read : ReadStorage) (out : StorageType) → SpellsStorage features bytes read → storage_of read ≡ Some out → InexactValue (unpacked out)
storage_inexact features bytes storages.I8 out h e = subst (λ (s : StorageType). InexactValue (unpacked s)) (some_is I8 out e) tt
storage_inexact features bytes storages.I16 out h e = subst (λ (s : StorageType). InexactValue (unpacked s)) (some_is I16 out e) tt
storage_inexact features bytes (storages.Val ty) out h e =
    mapped Val (value_of ty) out e (λ v p is. subst (λ (s : StorageType). InexactValue (unpacked s)) is (told_inexact ty v p (word_inexact features bytes ty h)))

field_inexact : (features : WasmFeatures) (bytes : List ℕ) (read : ReadField) (out : FieldType) → SpellsField features bytes read → field_of read ≡ Some out → InexactField out
field_inexact features bytes read out h e = mapped (λ (ty : StorageType). let f : FieldType = record { element_type = ty; mutable = read.mutable } in f) (storage_of read.element_type) out e
    (λ s p is. subst InexactField is (storage_inexact features h.0 read.element_type s h.3 p))

fields_told : (features : WasmFeatures) (fs : List ReadField) (bytes : List ℕ) → SpellsItems (SpellsField features) bytes fs → (out : List FieldType) → told_all field_of fs ≡ Some out → AllByRecursion InexactField out
fields_told features [] bytes h out e = subst (AllByRecursion InexactField) (some_is [] out e) tt
fields_told features (f ∷ fs) bytes h out e = both_is (λ (y : FieldType) (ys : List FieldType). y ∷ ys) (field_of f) (told_all field_of fs) out e
    (λ y ys p q is. subst (AllByRecursion InexactField) is (field_inexact features h.0 f y h.3 p, fields_told features fs h.1 h.4 ys q))

form_inexact : (features : WasmFeatures) (bytes : List ℕ) (inner : CompositeInnerType) (out : Form) → SpellsForm features bytes inner → form_of inner ≡ Some out → InexactForm out
form_inexact features bytes (Func ty) out h e =
    let lists = h.2 in
    let ps = lists.3 in
    let rs = lists.4 in
    both_is FunctionForm (told_all value_of ty.params) (told_all value_of ty.results) out e
    (λ a b p q is. subst InexactForm is (values_told features ty.params ps.listed ps.lists a p, values_told features ty.results rs.listed rs.lists b q))
form_inexact features bytes (Struct ty) out h e =
    let behind = h.1 in
    let fs = behind.2 in
    mapped StructForm (told_all field_of ty.fields) out e (λ a p is. subst InexactForm is (fields_told features ty.fields fs.listed fs.lists a p))
form_inexact features bytes (Array ty) out h e =
    let behind = h.1 in
    mapped ArrayForm (field_of ty.0) out e (λ a p is. subst InexactForm is (field_inexact features behind.0 ty.0 a behind.2 p))
form_inexact features bytes (Cont ty) out h e = absurd h

composite_inexact : (features : WasmFeatures) (bytes : List ℕ) (inner : CompositeInnerType) (shared : Bool) (out : Form) → SpellsComposite features bytes (record { inner = inner; shared = shared })
    → composite_form (record { inner = inner; shared = shared }) ≡ Some out → InexactForm out
composite_inexact features bytes inner true out h e = absurd cc
composite_inexact features bytes inner false out h e = form_inexact features bytes inner out h e

sub_inexact : (features : WasmFeatures) (bytes : List ℕ) (ty : SubType) (out : Kind) → SpellsSub features bytes ty → kind_of ty ≡ Some out → InexactForm out.form
sub_inexact features bytes ty out h e = mapped (λ (form : Form). declared_kind form ty.is_final _) (composite_form ty.composite_type) out e (λ form p is. subst (λ (k : Kind). InexactForm k.form) is (of h form p))
  where
    of : SpellsSub features bytes ty → (form : Form) → composite_form ty.composite_type ≡ Some form → InexactForm form
    of (inl h) form p = let behind = h.1 in let both = behind.2 in composite_inexact features both.1 ty.composite_type.inner ty.composite_type.shared form both.4 p
    of (inr h) form p = composite_inexact features bytes ty.composite_type.inner ty.composite_type.shared form h.2 p

one_more : (o : Option Kind) (kinds : List Kind) → ((k : Kind) → o ≡ Some k → InexactForm k.form) → InexactKinds kinds → InexactKinds (cons_option o kinds)
one_more None kinds f h = h
one_more (Some k) kinds f h = (f k refl, h)

members_inexact : (features : WasmFeatures) (from to : ℕ) (xs : List Measured) (bytes : List ℕ) → SpellsEntries behind (measured features) from bytes xs
    → InexactKinds (filter_map (λ (x : Measured). kind_of x.1) (placed to xs))
members_inexact features from to [] bytes h = tt
members_inexact features from to (x ∷ xs) bytes h =
    let sub = h.3 in
    one_more (kind_of x.1) (filter_map (λ (x : Measured). kind_of x.1) (placed x.0 xs)) (λ k e. sub_inexact features h.0 x.1 k sub.0 e) (members_inexact features (behind from x) x.0 xs h.1 h.4)

single_inexact : (features : WasmFeatures) (bytes : List ℕ) (x : Measured) → (measured features 0).spells bytes x → InexactKinds (type_group (inr x)).kinds
single_inexact features bytes x h = one_more (kind_of x.1) [] (λ k e. sub_inexact features bytes x.1 k h.0 e) tt

group_inexact : (features : WasmFeatures) (bytes : List ℕ) (g : GroupEntry) → (rectype features).spells bytes g → InexactKinds (type_group g).kinds
group_inexact features bytes g h = go (enables features GcTypes) g h
  where
    by_led : (g : GroupEntry) → (led 0x4e (explicit features) (measured features 0) (sub_apart features 0) (sub_some features 0) (sub_wants features 0)).spells bytes g → InexactKinds (type_group g).kinds
    by_led (inl x) h = let vec = h.2 in let list = vec.4 in members_inexact features x.0.0 x.0.0 x.1 vec.1 list.0
    by_led (inr x) h = single_inexact features bytes x h

    go : (on : Bool) (g : GroupEntry) → either_type on ((led 0x4e (explicit features) (measured features 0) (sub_apart features 0) (sub_some features 0) (sub_wants features 0)).spells bytes g)
        ((single features).spells bytes g) → InexactKinds (type_group g).kinds
    go true g h = by_led g h
    go false g h = subst (λ (g : GroupEntry). InexactKinds (type_group g).kinds) h.1 (single_inexact features bytes h.0 h.2)

groups_more : (groups : List TypeGroup) (g : TypeGroup) → InexactGroups groups → InexactKinds g.kinds → InexactGroups (groups ++ g ∷ [])
groups_more [] g h p = (p, tt)
groups_more (x ∷ groups) g h p = (h.0, groups_more groups g h.1 p)

-- ---- expressions

module _ (features : WasmFeatures) where
  constant_inexact : (bytes : List ℕ) (op : Seen) → (constant features).spells bytes op → InexactOperator op
  constant_inexact bytes op h = let inner = h.2 in subst InexactOperator h.1 (forms_inexact features _ inner.1 h.0.1 inner.4)

  expr_inexact : (k : Known) (ops : Expr) (bytes : List ℕ) → (expr features k).spells bytes ops → InexactExpr ops
  expr_inexact k [] bytes h = tt
  expr_inexact k (op ∷ ops) bytes h = (constant_inexact h.0 op h.3, expr_inexact k ops h.1 h.4)

  exprs_inexact : (k : Known) (es : List Expr) (bytes : List ℕ) → SpellsEntries pass (λ _. expr features k) tt bytes es → AllByRecursion InexactExpr es
  exprs_inexact k [] bytes h = tt
  exprs_inexact k (e ∷ es) bytes h = (expr_inexact k e h.0 h.3, exprs_inexact k es h.1 h.4)

  -- ---- segments, by their flags

  abbrev ElementIs : ElementForm → Type 0
  ElementIs e = InexactMode (element_of e).mode × InexactElements (element_of e).items

  element_inexact : (s : State) (flags : ℕ) (bytes : List ℕ) (e : ElementForm) → (element_form features s flags).spells bytes e → ElementIs e
  element_inexact s flags bytes e h =
      either_case (flags == 0) h (λ is k. let x = k.2 in subst ElementIs k.1 (expr_inexact (known s) k.0.0 x.0 x.3, tt))
      (λ _ h. either_case (flags == 1) h (λ is k. subst ElementIs k.1 (tt, tt))
      (λ _ h. either_case (flags == 2) h (λ is k. let x = k.2 in let into = x.3 in subst ElementIs k.1 (expr_inexact (known s) k.0.0.1 into.1 into.4, tt))
      (λ _ h. either_case (flags == 3) h (λ is k. subst ElementIs k.1 (tt, tt))
      (λ _ h. either_case (flags == 4) h (λ is k. let x = k.2 in let list = x.4 in subst ElementIs k.1 (expr_inexact (known s) k.0.0 x.0 x.3, (tt, exprs_inexact (known s) k.0.1 list.1 list.4)))
      (λ _ h. either_case (flags == 5) h (λ is k. let x = k.2 in let list = x.4 in subst ElementIs k.1 (tt, (ref_inexact features (type_count s) x.0 k.0.0 x.3, exprs_inexact (known s) k.0.1 list.1 list.4)))
      (λ _ h. either_case (flags == 6) h (λ is k. let x = k.2 in let into = x.3 in let y = x.4 in let list = y.4 in
      subst ElementIs k.1 (expr_inexact (known s) k.0.0.1 into.1 into.4, (ref_inexact features (type_count s) y.0 k.0.1.0 y.3, exprs_inexact (known s) k.0.1.1 list.1 list.4)))
      (λ _ h. either_case (flags == 7) h (λ is k. let x = k.2 in let list = x.4 in subst ElementIs k.1 (tt, (ref_inexact features (type_count s) x.0 k.0.0 x.3, exprs_inexact (known s) k.0.1 list.1 list.4)))
      (λ _ h. absurd h))))))))

  abbrev SegmentIs : DataForm → Type 0
  SegmentIs e = InexactMode (segment_of e).mode

  data_inexact : (s : State) (flags : ℕ) (bytes : List ℕ) (e : DataForm) → (data_form features s flags).spells bytes e → SegmentIs e
  data_inexact s flags bytes e h =
      either_case (flags == 0) h (λ is k. let x = k.2 in subst SegmentIs k.1 (expr_inexact (known s) k.0.0 x.0 x.3))
      (λ _ h. either_case (flags == 1) h (λ is k. subst SegmentIs k.1 tt)
      (λ _ h. either_case (flags == 2) h (λ is k. let x = k.2 in let into = x.3 in subst SegmentIs k.1 (expr_inexact (known s) k.0.0.1 into.1 into.4))
      (λ _ h. absurd h)))

  -- ---- what is imported

  abbrev EntityIs : Entity → Type 0
  EntityIs (TableOf ty) = InexactRef ty.0
  EntityIs (GlobalOf ty) = InexactValue ty.0
  EntityIs _ = Unit {0}

  entity_inexact : (s : State) (kind : ℕ) (bytes : List ℕ) (e : Entity) → (entity features s kind).spells bytes e → EntityIs e
  entity_inexact s kind bytes e h =
      either_case (kind == 0) h (λ is k. subst EntityIs k.1 tt)
      (λ _ h. either_case (kind == 1) h (λ is k. let x = k.2 in subst EntityIs k.1 (ref_inexact features (type_count s) x.0 k.0.0 x.3))
      (λ _ h. either_case (kind == 2) h (λ is k. subst EntityIs k.1 tt)
      (λ _ h. either_case (kind == 3) h (λ is k. let x = k.2 in subst EntityIs k.1 (value_inexact features (type_count s) x.0 k.0.0 x.3))
      (λ _ h. either_case (kind == 4) h (λ is k. subst EntityIs k.1 tt)
      (λ _ h. absurd h)))))

  -- ---- entries

  abbrev TableIs : Table → Type 0
  TableIs t = InexactRef t.element × InexactInit t.init

  abbrev GlobalIs : Global → Type 0
  GlobalIs g = InexactValue g.ty × InexactOrigin g.origin

  abbrev ElementItemIs : Element → Type 0
  ElementItemIs e = InexactMode e.mode × InexactElements e.items

  abbrev SegmentItemIs : Segment → Type 0
  SegmentItemIs x = InexactMode x.mode

  abbrev Held : Module → Type 0
  Held m = InexactGroups m.groups × Each TableIs m.tables × Each GlobalIs m.globals × Each ElementItemIs m.elements × Each SegmentItemIs m.segments

  -- the same, whether there is room or not
  in_room : {P : Type 0} (room : Bool) → either_type room P P → P
  in_room true p = p
  in_room false p = p

  entity_held : (s : State) (n : ℕ) (e : Entity) → EntityIs e → Held s.filled → Held (add_entity s n e).filled
  entity_held s n (FunctionOf ty) is p = p
  entity_held s n (TableOf ty) is p = (p.0, each_push TableIs s.filled.tables (table_of ty None (Some n)) p.1 (is, tt), p.2, p.3, p.4)
  entity_held s n (MemoryOf ty) is p = p
  entity_held s n (GlobalOf ty) is p = (p.0, p.1, each_push GlobalIs s.filled.globals (global_of ty (Imported n)) p.2 (is, tt), p.3, p.4)
  entity_held s n (TagOf ty) is p = p

  import_held : (s : State) (bytes : List ℕ) (x : ImportEntry) → (import_entry features s).spells bytes x → Held s.filled → Held (add_import s x).filled
  import_held s bytes x h p = let a = h.4 in let b = a.4 in entity_held (with_import s (import_of s x)) _ x.1.1.1 (entity_inexact s x.1.1.0 b.1 x.1.1.1 b.4) p

  table_held : (s : State) (bytes : List ℕ) (x : TableEntry) → (table_entry features s).spells bytes x → Held s.filled → Held (add_table s x).filled
  table_held s bytes (inl x) h p =
      let f : (led 0x40 (initialised features s) (table_type features s) (table_apart features s) (table_some features s) (table_wants features s)).spells bytes (inl x) = in_room _ h in
      let all = f.2 in
      let pair = all.4 in
      let ty = pair.3 in
      (p.0, each_push TableIs s.filled.tables (table_of x.1.0 (Some x.1.1) None) p.1 (ref_inexact features (type_count s) ty.0 x.1.0.0 ty.3, expr_inexact (known s) x.1.1 pair.1 pair.4), p.2, p.3, p.4)
  table_held s bytes (inr ty) h p =
      let f : (table_type features s).spells bytes ty = in_room _ h in
      (p.0, each_push TableIs s.filled.tables (table_of ty None None) p.1 (ref_inexact features (type_count s) f.0 ty.0 f.3, tt), p.2, p.3, p.4)

  global_held : (s : State) (bytes : List ℕ) (x : GlobalEntry) → (global_entry features s).spells bytes x → Held s.filled → Held (add_global s x).filled
  global_held s bytes x h p =
      let f : (after (global_type features s) (λ _. expr features (known s))).spells bytes x = in_room _ h in
      let ty = f.3 in
      (p.0, p.1, each_push GlobalIs s.filled.globals (global_of x.0 (Own x.1)) p.2 (value_inexact features (type_count s) ty.0 x.0.0 ty.3, expr_inexact (known s) x.1 f.1 f.4), p.3, p.4)

  element_held : (s : State) (bytes : List ℕ) (x : ElementEntry) → (element_entry features s).spells bytes x → Held s.filled → Held (add_element s x).filled
  element_held s bytes x h p =
      let f : (after (element_flags s) (λ flags. element_form features s flags)).spells bytes x = in_room _ h in
      (p.0, p.1, p.2, each_push ElementItemIs s.filled.elements (element_of x.1) p.3 (element_inexact s x.0 f.1 x.1 f.4), p.4)

  segment_held : (s : State) (bytes : List ℕ) (x : DataEntry) → (data_entry features s).spells bytes x → Held s.filled → Held (add_data s x).filled
  segment_held s bytes x h p =
      let f : (after (data_flags s) (λ flags. data_form features s flags)).spells bytes x = in_room _ h in
      (p.0, p.1, p.2, p.3, each_push SegmentItemIs s.filled.segments (segment_of x.1) p.4 (data_inexact s x.0 f.1 x.1 f.4))

  kept : EntriesKeep features Held
  kept = record {
    customs = λ _ s x p. p;
    groups = λ s bytes x h r p. (groups_more s.filled.groups (type_group x) p.0 (group_inexact features bytes x h), p.1, p.2, p.3, p.4);
    imports = λ s bytes x h r p. import_held s bytes x h p;
    functions = λ s bytes x h r p. p;
    tables = λ s bytes x h r p. table_held s bytes x h p;
    memories = λ s bytes x h r p. p;
    tags = λ s bytes x h r p. p;
    globals = λ s bytes x h r p. global_held s bytes x h p;
    exports = λ s bytes x h r p. p;
    start = λ s n r p. p;
    elements = λ s bytes x h r p. element_held s bytes x h p;
    segments = λ s bytes x h r p. segment_held s bytes x h p;
  }

pub read_sections_are_inexact : ReadSectionsAreInexact
read_sections_are_inexact features bytes s h =
    let held = subst (λ (s : State). Held features s.filled) h.2 (file_kept features (Held features) (kept features) (tt, tt, tt, tt, tt) bytes h.0 h.1.0 h.1.1) in
    record { groups = held.0; tables = held.1; globals = held.2; elements = held.3; segments = held.4 }
