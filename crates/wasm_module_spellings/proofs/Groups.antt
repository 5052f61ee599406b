-- Lemmas: groups of types of a module that meets the rules met those of their entries, at the states before them.
use Rattle.std.specs.Prelude.{ℕ, suc, ◌+◌, ◌<◌, ◌≤◌, ◌≡◌, nat_le, Bool, true, false, not, List, [], ◌∷◌, ◌++◌, length, All, Option, Some, None, IfSome, refl}
use Rattle.std.specs.List.{list_any, filter_map, flat_map, cons_option}
use Rattle.std.specs.Option.{option_map, option_to_list}
use Rattle.std.proofs.Common.{ap, sym, ◌∙◌, subst, arith}
use Rattle.std.proofs.lemmas.Bool.{lt-leb}
use Rattle.std.proofs.lemmas.List.{length-append}
use Rattle.std.proofs.lemmas.List.Concat.{flat_map-append}
use Rattle.std.proofs.lemmas.List.Elements.{All-head, All-tail}
use Rattle.std.proofs.lemmas.List.Folds.{list_any-append}
use Rattle.wasm_features.specs.declared.WasmFeatures.{WasmFeatures}
use Rattle.wasm_ref_types.specs.declared.index.UnpackedIndex.{UnpackedIndex}
use Rattle.wasm_ref_types.specs.declared.value.ValType.{ValType as ReadValue}
use Rattle.wasm_composite_types.specs.declared.field.StorageType.{StorageType as ReadStorage}
use Rattle.wasm_composite_types.specs.declared.field.StorageType.TheVariants as storages
use Rattle.wasm_composite_types.specs.declared.field.FieldType.{FieldType as ReadField}
use Rattle.wasm_composite_types.specs.declared.form.CompositeInnerType.{CompositeInnerType}
use Rattle.wasm_composite_types.specs.declared.form.CompositeInnerType.TheVariants.{Func, Array, Struct, Cont}
use Rattle.wasm_composite_types.specs.Fields.{unpacked}
use Rattle.wasm_types.specs.declared.subtype.SubType.{SubType}
use Rattle.walrus_forms.specs.declared.value.FieldType.{FieldType}
use Rattle.walrus_forms.specs.declared.value.StorageType.{StorageType}
use Rattle.walrus_forms.specs.declared.value.StorageType.TheVariants.{Val}
use Rattle.walrus_forms.specs.declared.value.HeapType.{HeapType}
use Rattle.walrus_forms.specs.declared.value.HeapType.TheVariants.{Abstract, Shared, Concrete, Exact}
use Rattle.walrus_forms.specs.declared.value.ValType.{ValType}
use Rattle.walrus_forms.specs.declared.value.ValType.TheVariants as values
use Rattle.walrus_forms.specs.Forms.{Form, FunctionForm, StructForm, ArrayForm}
use Rattle.walrus_forms.specs.Kinds.{Kind, declared_kind}
use Rattle.walrus_forms.specs.Records.{TypeGroup}
use Rattle.walrus_forms.specs.Values.{heap_name}
use Rattle.walrus_forms.specs.Renaming.{ValueBelow, StorageBelow, FieldBelow, FormBelow, KindBelow}
use Rattle.wasm_formats.specs.Stops.{Trouble}
use Rattle.wasm_grammar.specs.Modules.{Module}
use Rattle.wasm_grammar.specs.States.{State, types_of, type_count}
use Rattle.wasm_grammar.specs.TypeWords.{value_of, value_from, value_told, heap_from}
use Rattle.wasm_sections.specs.TypeNames.{heap_index, value_index, field_index, inner_names, super_names, sub_names, index_number, both, told_all, storage_of, field_of, form_of, composite_form, super_of, kind_of}
use Rattle.wasm_sections.specs.TypeSection.{Measured, GroupEntry, group, members, sub_test, members_test, at_place, is_told, type_group, add_group}
use Rattle.wasm_module_rules.specs.Keeps.{must_holds, first_none}
use Rattle.wasm_ruled_modules.specs.Rules.{AreBelow, GroupsBelow}
use Rattle.wasm_ruled_modules.specs.Counted.{at_none}
use Rattle.wasm_module_spellings.specs.Spelled.{IsFormed}
use Rattle.wasm_module_spellings.proofs.Fronts.{Fronts, before_group}
use Rattle.wasm_module_spellings.proofs.Values.{must_pass, below_passes, first_passes}
use Rattle.wasm_module_spellings.proofs.Items.{Holds}

-- ---- names of which none is too great

abbrev NoneFrom : ℕ → List ℕ → Type 0
NoneFrom end names = list_any (λ name. nat_le end name) names ≡ false

none_joined : (end : ℕ) (xs ys : List ℕ) → NoneFrom end xs → NoneFrom end ys → NoneFrom end (xs ++ ys)
none_joined end xs ys a b = list_any-append (λ name. nat_le end name) xs ys ∙ rw (a, b) refl

none_put : (end n : ℕ) (ns : List ℕ) → n < end → NoneFrom end ns → NoneFrom end (n ∷ ns)
none_put end n ns lt h = rw (lt-leb end n lt) h

none_option : (end : ℕ) (o : Option ℕ) → IfSome o (λ n. n < end) → NoneFrom end (option_to_list o)
none_option end None h = refl
none_option end (Some n) h = none_put end n [] h refl

none_consed : (end : ℕ) (o : Option ℕ) (ns : List ℕ) → IfSome o (λ n. n < end) → NoneFrom end ns → NoneFrom end (cons_option o ns)
none_consed end None ns h k = k
none_consed end (Some n) ns h k = none_put end n ns h k

-- ---- what is told of several

some_is : {A : Type 0} (x y : A) → Some x ≡ Some y → x ≡ y
some_is x y e = cc

none_is : {A P : Type 0} (y : A) → (let none : Option A = None in none ≡ Some y) → P
none_is y e = absurd cc

mapped : {A B P : Type 0} (f : A → B) (o : Option A) (y : B) → option_map f o ≡ Some y → ((x : A) → o ≡ Some x → y ≡ f x → P) → P
mapped f None y e k = none_is y e
mapped f (Some x) y e k = k x refl (sym (some_is (f x) y e))

both_are : {A B C P : Type 0} (make : A → B → C) (a : Option A) (b : Option B) (y : C) → both make a b ≡ Some y → ((x : A) (z : B) → a ≡ Some x → b ≡ Some z → y ≡ make x z → P) → P
both_are make None b y e k = none_is y e
both_are make (Some x) None y e k = none_is y e
both_are make (Some x) (Some z) y e k = k x z refl refl (sym (some_is (make x z) y e))

told_names : {A B : Type 0} (end : ℕ) (tell : A → Option B) (index : A → Option ℕ) (Below : B → Type 0) → ((x : A) (y : B) → tell x ≡ Some y → Below y → IfSome (index x) (λ n. n < end))
    → (xs : List A) (ys : List B) → told_all tell xs ≡ Some ys → All Below ys → NoneFrom end (filter_map index xs)
told_names end tell index Below one [] ys e h = refl
told_names end tell index Below one (x ∷ xs) ys e h =
    both_are (λ y ys. y ∷ ys) (tell x) (told_all tell xs) ys e (λ y zs a b same.
    let all = subst (All Below) same h in
    none_consed end (index x) (filter_map index xs) (one x y a (All-head Below y zs all)) (told_names end tell index Below one xs zs b (All-tail Below y zs all)))

-- ---- types

heap_names : (end : ℕ) (h : HeapType) → IfSome (heap_name h) (λ n. n < end) → IfSome (heap_index (heap_from h)) (λ n. n < end)
heap_names end (Abstract ty) h = tt
heap_names end (Shared ty) h = tt
heap_names end (Concrete n) h = h
heap_names end (Exact n) h = h

value_from_names : (end : ℕ) (y : ValType) → ValueBelow end y → IfSome (value_index (value_from y)) (λ n. n < end)
value_from_names end values.I32 h = tt
value_from_names end values.I64 h = tt
value_from_names end values.F32 h = tt
value_from_names end values.F64 h = tt
value_from_names end values.V128 h = tt
value_from_names end (values.Ref r) h = heap_names end r.heap_type h

value_names : (end : ℕ) (x : ReadValue) (y : ValType) → value_of x ≡ Some y → ValueBelow end y → IfSome (value_index x) (λ n. n < end)
value_names end x y e h = subst (λ (x : ReadValue). IfSome (value_index x) (λ n. n < end)) (sym (value_told x y e)) (value_from_names end y h)

storage_names : (end : ℕ) (x : ReadStorage) (y : StorageType) → storage_of x ≡ Some y → StorageBelow end y → IfSome (value_index (unpacked x)) (λ n. n < end)
storage_names end storages.I8 y e h = tt
storage_names end storages.I16 y e h = tt
storage_names end (storages.Val ty) y e h = mapped Val (value_of ty) y e (λ x a same. value_names end ty x a (subst (StorageBelow end) same h))

field_names : (end : ℕ) (x : ReadField) (y : FieldType) → field_of x ≡ Some y → FieldBelow end y → IfSome (field_index x) (λ n. n < end)
field_names end x y e h =
    mapped (λ ty. record { element_type = ty; mutable = x.mutable }) (storage_of x.element_type) y e (λ ty a same. storage_names end x.element_type ty a (subst (FieldBelow end) same h))

form_names : (end : ℕ) (x : CompositeInnerType) (y : Form) → form_of x ≡ Some y → FormBelow end y → NoneFrom end (inner_names x)
form_names end (Func ty) y e h =
    both_are FunctionForm (told_all value_of ty.params) (told_all value_of ty.results) y e (λ ps rs a b same.
    let parts = subst (FormBelow end) same h in
    none_joined end (filter_map value_index ty.params) (filter_map value_index ty.results)
    (told_names end value_of value_index (ValueBelow end) (value_names end) ty.params ps a parts.0)
    (told_names end value_of value_index (ValueBelow end) (value_names end) ty.results rs b parts.1))
form_names end (Struct ty) y e h =
    mapped StructForm (told_all field_of ty.fields) y e (λ fs a same. told_names end field_of field_index (FieldBelow end) (field_names end) ty.fields fs a (subst (FormBelow end) same h))
form_names end (Array ty) y e h =
    mapped ArrayForm (field_of ty.0) y e (λ f a same. none_option end (field_index ty.0) (field_names end ty.0 f a (subst (FormBelow end) same h)))
form_names end (Cont ty) y e h = refl

super_none : (end : ℕ) (o : Option UnpackedIndex) → IfSome (super_of o) (λ n. n < end) → NoneFrom end (super_names o)
super_none end None h = refl
super_none end (Some index) h = none_option end (index_number index) h

composite_names : (end : ℕ) (ty : SubType) (y : Form) → composite_form ty.composite_type ≡ Some y → FormBelow end y → NoneFrom end (inner_names ty.composite_type.inner)
composite_names end ty y e h = go ty.composite_type.shared refl
  where
    go : (shared : Bool) → ty.composite_type.shared ≡ shared → NoneFrom end (inner_names ty.composite_type.inner)
    go true p = none_is y (rw p at e)
    go false p = form_names end ty.composite_type.inner y (rw p at e) h

kind_names : (end : ℕ) (ty : SubType) (kind : Kind) → kind_of ty ≡ Some kind → KindBelow end kind → NoneFrom end (sub_names ty)
kind_names end ty kind e h =
    mapped (λ form. declared_kind form ty.is_final (super_of ty.supertype_idx)) (composite_form ty.composite_type) kind e (λ form a same.
    let parts = subst (KindBelow end) same h in
    none_joined end (super_names ty.supertype_idx) (inner_names ty.composite_type.inner) (super_none end ty.supertype_idx parts.1) (composite_names end ty form a parts.0))

-- ---- members

abbrev kinds_of : List Measured → List Kind
kinds_of ms = filter_map (λ (m : Measured). kind_of m.1) ms

abbrev AreTold : List Measured → Type 0
AreTold [] = Unit {0}
AreTold (m ∷ ms) = (is_told (kind_of m.1) ≡ true) × AreTold ms

members_told : (end n : ℕ) (ms : List Measured) → members_test end n ms ≡ None → AreTold ms
members_told end n [] e = tt
members_told end n (m ∷ ms) e =
    let parts = at_none m.0 (sub_test end n m.1) (members_test end (suc n) ms) e in
    let tests = first_none _ _ parts.0 in
    (must_holds _ _ (first_none _ _ tests.1).0, members_told end (suc n) ms parts.1)

told_is : {P : Type 0} (o : Option Kind) → is_told o ≡ true → ((kind : Kind) → o ≡ Some kind → P) → P
told_is None e k = absurd cc
told_is (Some kind) e k = k kind refl

told_length : (ms : List Measured) → AreTold ms → length (kinds_of ms) ≡ length ms
told_length [] h = refl
told_length (m ∷ ms) h = told_is (kind_of m.1) h.0 (λ kind p. let rest = told_length ms h.1 in rw p (omega (arith, rest)))

none_at : (place : ℕ) (o : Option Trouble) (later : Option (ℕ × Trouble)) → o ≡ None → later ≡ None → at_place place o later ≡ None
none_at place o later e f = rw (e, f) refl

members_pass : (end n : ℕ) (ms : List Measured) → AreTold ms → AreBelow end (kinds_of ms) → n + length ms ≤ 1000000 → members_test end n ms ≡ None
members_pass end n [] told below le = refl
members_pass end n (m ∷ ms) told below le = told_is (kind_of m.1) told.0 (λ kind p.
    let parts : KindBelow end kind × AreBelow end (kinds_of ms) = subst (λ (o : Option Kind). AreBelow end (cons_option o (kinds_of ms))) p below in
    none_at m.0 (sub_test end n m.1) (members_test end (suc n) ms)
    (first_passes _ _ (must_pass (not (list_any (λ name. nat_le end name) (sub_names m.1))) _ (ap not (kind_names end m.1 kind p parts.0)))
    (first_passes _ _ (must_pass (is_told (kind_of m.1)) _ told.0) (below_passes n 1000000 _ (omega (arith, le)))))
    (members_pass end (suc n) ms told.1 parts.1 (omega (arith, le))))

-- ---- groups

group_mid : (n : ℕ) (gs more : List TypeGroup) (g : TypeGroup) → GroupsBelow n ((gs ++ g ∷ []) ++ more) → AreBelow (n + length (flat_map (λ (g : TypeGroup). g.kinds) gs) + length g.kinds) g.kinds
group_mid n [] more g h = subst (λ (end : ℕ). AreBelow end g.kinds) (omega arith) h.0
group_mid n (x ∷ gs) more g h =
    let kinds : TypeGroup → List Kind = λ g. g.kinds in
    let same : n + length x.kinds + length (flat_map kinds gs) + length g.kinds ≡ n + length (flat_map kinds (x ∷ gs)) + length g.kinds = omega (arith, length-append x.kinds (flat_map kinds gs)) in
    subst (λ (end : ℕ). AreBelow end g.kinds) same (group_mid (n + length x.kinds) gs more g h.1)

pub group_back : (w : Module) (h : Holds w) (features : WasmFeatures) (s : State) (x : GroupEntry) → IsFormed (group features) x → Fronts 0 (add_group s x).filled w → Fronts 0 s.filled w × (group features s).rules x
group_back w h features s x formed f =
    let y = type_group x in
    let b = before_group 0 s.filled w y (omega arith) f in
    let r = formed.1 in
    let told = members_told (type_count formed.0 + length (members x)) (type_count formed.0) (members x) r.1 in
    let count = told_length (members x) told in
    let gs = f.groups in
    let below = group_mid 0 s.filled.groups gs.0 y (subst (GroupsBelow 0) gs.1 h.groups) in
    let kinds : TypeGroup → List Kind = λ g. g.kinds in
    let all : length (types_of w) ≡ type_count s + (length y.kinds + 0) + length (flat_map kinds gs.0) =
    ap (λ (l : List TypeGroup). length (flat_map kinds l)) gs.1 ∙ ap length (flat_map-append kinds (s.filled.groups ++ y ∷ []) gs.0 ∙ ap (λ (l : List Kind). l ++ flat_map kinds gs.0) (flat_map-append kinds s.filled.groups (y ∷ [])))
    ∙ omega (arith, length-append (flat_map kinds s.filled.groups ++ (y.kinds ++ [])) (flat_map kinds gs.0), length-append (flat_map kinds s.filled.groups) (y.kinds ++ []), length-append y.kinds (let none : List Kind = [] in none)) in
    let le = h.lists.types in
    (b, (r.0, members_pass (type_count s + length (members x)) (type_count s) (members x) told (subst (λ (end : ℕ). AreBelow end y.kinds) (omega (arith, count)) below) (omega (arith, le, all, count))))
