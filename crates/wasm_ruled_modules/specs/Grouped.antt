-- Lemmas: the types of a group name types below its end.
use Rattle.std.specs.Prelude.{ℕ, suc, ◌+◌, ◌<◌, ◌≡◌, nat_le, Bool, true, false, List, [], ◌∷◌, ◌++◌, length, All, Option, Some, None, IfSome, refl}
use Rattle.std.specs.List.{list_any, filter_map, flat_map, cons_option}
use Rattle.std.specs.Option.{option_map, option_to_list}
use Rattle.std.proofs.Common.{ap, sym, ◌∙◌, subst, arith}
use Rattle.std.proofs.lemmas.Bool.{leb-false, or_parts}
use Rattle.std.proofs.lemmas.List.{length-append}
use Rattle.std.proofs.lemmas.List.Elements.{All-nil, All-cons}
use Rattle.std.proofs.lemmas.List.Folds.{list_any-append}
use Rattle.wasm_ref_types.specs.declared.index.UnpackedIndex.{UnpackedIndex}
use Rattle.wasm_ref_types.specs.declared.value.ValType.{ValType as ReadValue}
use Rattle.wasm_composite_types.specs.declared.field.StorageType.{StorageType as ReadStorage}
use Rattle.wasm_composite_types.specs.declared.field.StorageType.TheVariants as storages
use Rattle.wasm_composite_types.specs.declared.field.FieldType.{FieldType as ReadField}
use Rattle.wasm_composite_types.specs.declared.form.CompositeInnerType.{CompositeInnerType}
use Rattle.wasm_composite_types.specs.declared.form.CompositeInnerType.TheVariants.{Func, Array, Struct, Cont}
use Rattle.wasm_composite_types.specs.Fields.{unpacked}
use Rattle.wasm_types.specs.declared.subtype.SubType.{SubType}
use Rattle.walrus_forms.specs.declared.value.FieldType.{FieldType}
use Rattle.walrus_forms.specs.declared.value.StorageType.{StorageType}
use Rattle.walrus_forms.specs.declared.value.StorageType.TheVariants.{Val, I8, I16}
use Rattle.walrus_forms.specs.declared.value.HeapType.{HeapType}
use Rattle.walrus_forms.specs.declared.value.HeapType.TheVariants.{Abstract, Shared, Concrete, Exact}
use Rattle.walrus_forms.specs.declared.value.ValType.{ValType}
use Rattle.walrus_forms.specs.declared.value.ValType.TheVariants as values
use Rattle.walrus_forms.specs.Forms.{Form, FunctionForm, StructForm, ArrayForm}
use Rattle.walrus_forms.specs.Kinds.{Kind, declared_kind}
use Rattle.walrus_forms.specs.Records.{TypeGroup}
use Rattle.walrus_forms.specs.Values.{heap_name}
use Rattle.walrus_forms.specs.Renaming.{ValueBelow, StorageBelow, FieldBelow, FormBelow, KindBelow}
use Rattle.wasm_module_rules.specs.wasm_modules.wasm_body_grammar.wasm_grammar.States.{State, types_of}
use Rattle.wasm_module_rules.specs.wasm_modules.wasm_body_grammar.wasm_grammar.TypeWords.{value_of, value_from, value_told, heap_from}
use Rattle.wasm_module_rules.specs.wasm_modules.wasm_sections.TypeNames.{heap_index, value_index, field_index, inner_names, super_names, sub_names, index_number, both, told_all, storage_of, field_of, form_of, composite_form, super_of, kind_of}
use Rattle.wasm_module_rules.specs.wasm_modules.wasm_sections.TypeSection.{Measured, GroupEntry, members, sub_test, members_test, is_told, group_test, type_group, add_group}
use Rattle.wasm_module_rules.specs.Keeps.{must_holds, first_none, not_true}
use Rattle.wasm_ruled_modules.specs.Rules.{AreBelow, GroupsBelow}
use Rattle.wasm_ruled_modules.specs.Counted.{at_none}

-- ---- names of which none is too great

abbrev NoneFrom : ℕ → List ℕ → Type 0
NoneFrom end names = list_any (λ name. nat_le end name) names ≡ false

none_parts : (end : ℕ) (xs ys : List ℕ) → NoneFrom end (xs ++ ys) → NoneFrom end xs × NoneFrom end ys
none_parts end xs ys h = or_parts (list_any (λ name. nat_le end name) xs) (list_any (λ name. nat_le end name) ys) (sym (list_any-append (λ name. nat_le end name) xs ys) ∙ h)

none_first : (end n : ℕ) (ns : List ℕ) → NoneFrom end (n ∷ ns) → (n < end) × NoneFrom end ns
none_first end n ns h = let p = or_parts (nat_le end n) (list_any (λ name. nat_le end name) ns) h in (leb-false end n p.0, p.1)

none_option : (end : ℕ) (o : Option ℕ) → NoneFrom end (option_to_list o) → IfSome o (λ n. n < end)
none_option end None h = tt
none_option end (Some n) h = (none_first end n [] h).0

none_consed : (end : ℕ) (o : Option ℕ) (ns : List ℕ) → NoneFrom end (cons_option o ns) → IfSome o (λ n. n < end) × NoneFrom end ns
none_consed end None ns h = (tt, h)
none_consed end (Some n) ns h = none_first end n ns h

-- ---- what is told of several

some_is : {A : Type 0} (x y : A) → Some x ≡ Some y → x ≡ y
some_is x y e = cc

none_is : {A P : Type 0} (y : A) → (let none : Option A = None in none ≡ Some y) → P
none_is y e = absurd cc

mapped : {A B P : Type 0} (f : A → B) (o : Option A) (y : B) → option_map f o ≡ Some y → ((x : A) → o ≡ Some x → f x ≡ y → P) → P
mapped f None y e k = none_is y e
mapped f (Some x) y e k = k x refl (some_is (f x) y e)

both_are : {A B C P : Type 0} (make : A → B → C) (a : Option A) (b : Option B) (y : C) → both make a b ≡ Some y → ((x : A) (z : B) → a ≡ Some x → b ≡ Some z → make x z ≡ y → P) → P
both_are make None b y e k = none_is y e
both_are make (Some x) None y e k = none_is y e
both_are make (Some x) (Some z) y e k = k x z refl refl (some_is (make x z) y e)

told_below : {A B : Type 0} (end : ℕ) (tell : A → Option B) (index : A → Option ℕ) (Below : B → Type 0) → ((x : A) (y : B) → tell x ≡ Some y → IfSome (index x) (λ n. n < end) → Below y)
    → (xs : List A) (ys : List B) → told_all tell xs ≡ Some ys → NoneFrom end (filter_map index xs) → All Below ys
told_below end tell index Below one [] ys e h = subst (All Below) (some_is [] ys e) (All-nil Below)
told_below end tell index Below one (x ∷ xs) ys e h =
    let parts = none_consed end (index x) (filter_map index xs) h in
    both_are (λ y ys. y ∷ ys) (tell x) (told_all tell xs) ys e
    (λ y zs a b same. subst (All Below) same (All-cons Below y zs (one x y a parts.0) (told_below end tell index Below one xs zs b parts.1)))

-- ---- types

heap_below : (end : ℕ) (h : HeapType) → IfSome (heap_index (heap_from h)) (λ n. n < end) → IfSome (heap_name h) (λ n. n < end)
heap_below end (Abstract ty) h = tt
heap_below end (Shared ty) h = tt
heap_below end (Concrete n) h = h
heap_below end (Exact n) h = h

value_from_below : (end : ℕ) (y : ValType) → IfSome (value_index (value_from y)) (λ n. n < end) → ValueBelow end y
value_from_below end values.I32 h = tt
value_from_below end values.I64 h = tt
value_from_below end values.F32 h = tt
value_from_below end values.F64 h = tt
value_from_below end values.V128 h = tt
value_from_below end (values.Ref r) h = heap_below end r.heap_type h

value_below : (end : ℕ) (x : ReadValue) (y : ValType) → value_of x ≡ Some y → IfSome (value_index x) (λ n. n < end) → ValueBelow end y
value_below end x y e h = value_from_below end y (subst (λ (x : ReadValue). IfSome (value_index x) (λ n. n < end)) (value_told x y e) h)

storage_below : (end : ℕ) (x : ReadStorage) (y : StorageType) → storage_of x ≡ Some y → IfSome (value_index (unpacked x)) (λ n. n < end) → StorageBelow end y
storage_below end storages.I8 y e h = subst (StorageBelow end) (some_is I8 y e) tt
storage_below end storages.I16 y e h = subst (StorageBelow end) (some_is I16 y e) tt
storage_below end (storages.Val ty) y e h = mapped Val (value_of ty) y e (λ x a same. subst (StorageBelow end) same (value_below end ty x a h))

field_below : (end : ℕ) (x : ReadField) (y : FieldType) → field_of x ≡ Some y → IfSome (field_index x) (λ n. n < end) → FieldBelow end y
field_below end x y e h =
    mapped (λ ty. record { element_type = ty; mutable = x.mutable }) (storage_of x.element_type) y e (λ ty a same. subst (FieldBelow end) same (storage_below end x.element_type ty a h))

form_below : (end : ℕ) (x : CompositeInnerType) (y : Form) → form_of x ≡ Some y → NoneFrom end (inner_names x) → FormBelow end y
form_below end (Func ty) y e h =
    let parts = none_parts end (filter_map value_index ty.params) (filter_map value_index ty.results) h in
    both_are FunctionForm (told_all value_of ty.params) (told_all value_of ty.results) y e (λ ps rs a b same.
    subst (FormBelow end) same (
      told_below end value_of value_index (ValueBelow end) (value_below end) ty.params ps a parts.0,
      told_below end value_of value_index (ValueBelow end) (value_below end) ty.results rs b parts.1,
    ))
form_below end (Struct ty) y e h =
    mapped StructForm (told_all field_of ty.fields) y e (λ fs a same. subst (FormBelow end) same (told_below end field_of field_index (FieldBelow end) (field_below end) ty.fields fs a h))
form_below end (Array ty) y e h =
    mapped ArrayForm (field_of ty.0) y e (λ f a same. subst (FormBelow end) same (field_below end ty.0 f a (none_option end (field_index ty.0) h)))
form_below end (Cont ty) y e h = none_is y e

super_below : (end : ℕ) (o : Option UnpackedIndex) → NoneFrom end (super_names o) → IfSome (super_of o) (λ n. n < end)
super_below end None h = tt
super_below end (Some index) h = none_option end (index_number index) h

composite_below : (end : ℕ) (ty : SubType) (y : Form) → composite_form ty.composite_type ≡ Some y → NoneFrom end (inner_names ty.composite_type.inner) → FormBelow end y
composite_below end ty y e h = go ty.composite_type.shared refl
  where
    go : (shared : Bool) → ty.composite_type.shared ≡ shared → FormBelow end y
    go true p = none_is y (rw p at e)
    go false p = form_below end ty.composite_type.inner y (rw p at e) h

kind_below : (end : ℕ) (ty : SubType) (kind : Kind) → kind_of ty ≡ Some kind → NoneFrom end (sub_names ty) → KindBelow end kind
kind_below end ty kind e h =
    let parts = none_parts end (super_names ty.supertype_idx) (inner_names ty.composite_type.inner) h in
    mapped (λ form. declared_kind form ty.is_final (super_of ty.supertype_idx)) (composite_form ty.composite_type) kind e (λ form a same.
    subst (KindBelow end) same (composite_below end ty form a parts.1, super_below end ty.supertype_idx parts.0))

-- ---- groups

abbrev kinds_of : List Measured → List Kind
kinds_of ms = filter_map (λ (m : Measured). kind_of m.1) ms

-- members whose tests held: each is told, and names types below the end
members_below : (end n : ℕ) (ms : List Measured) → members_test end n ms ≡ None → AreBelow end (kinds_of ms) × (length (kinds_of ms) ≡ length ms)
members_below end n [] e = (tt, refl)
members_below end n (m ∷ ms) e =
    let parts = at_none m.0 (sub_test end n m.1) (members_test end (suc n) ms) e in
    let tests = first_none _ _ parts.0 in
    let names = not_true _ (must_holds _ _ tests.0) in
    let told = must_holds _ _ (first_none _ _ tests.1).0 in
    let rest = members_below end (suc n) ms parts.1 in
    go (kind_of m.1) refl told names rest
  where
    go : (o : Option Kind) → kind_of m.1 ≡ o → is_told (kind_of m.1) ≡ true → NoneFrom end (sub_names m.1) → AreBelow end (kinds_of ms) × (length (kinds_of ms) ≡ length ms)
        → AreBelow end (cons_option (kind_of m.1) (kinds_of ms)) × (length (cons_option (kind_of m.1) (kinds_of ms)) ≡ suc (length ms))
    go None p told names rest = let told = (rw p at told) in absurd cc
    go (Some kind) p told names rest = rw p ((kind_below end m.1 kind p names, rest.0), ap (λ (n : ℕ). suc n) rest.1)

groups_push : (n : ℕ) (gs : List TypeGroup) (g : TypeGroup) → GroupsBelow n gs → AreBelow (n + length (flat_map (λ (g : TypeGroup). g.kinds) gs) + length g.kinds) g.kinds → GroupsBelow n (gs ++ g ∷ [])
groups_push n [] g h b = (subst (λ (end : ℕ). AreBelow end g.kinds) (omega arith) b, tt)
groups_push n (x ∷ gs) g h b =
    let kinds : TypeGroup → List Kind = λ g. g.kinds in
    let same : n + length (flat_map kinds (x ∷ gs)) + length g.kinds ≡ n + length x.kinds + length (flat_map kinds gs) + length g.kinds = omega (arith, length-append x.kinds (flat_map kinds gs)) in
    (h.0, groups_push (n + length x.kinds) gs g h.1 (subst (λ (end : ℕ). AreBelow end g.kinds) same b))

pub group_below : (s : State) (x : GroupEntry) → group_test (length (types_of s.filled)) x ≡ None → GroupsBelow 0 s.filled.groups → GroupsBelow 0 (add_group s x).filled.groups
group_below s x e h =
    let types = length (types_of s.filled) in
    let m = members_below (types + length (members x)) types (members x) e in
    groups_push 0 s.filled.groups (type_group x) h (subst (λ (end : ℕ). AreBelow end (type_group x).kinds) (omega (arith, m.1)) m.0)
