-- The test of kinds is true exactly where they are one.
use Rattle.std.proofs.Common.{◌≡◌, ◌∙◌, ℕ, Bool, true, false, ◌&&◌, List, [], ◌∷◌, Option, Some, None, refl, sym, ap, nat_eq}
use Rattle.std.specs.Bool.{beq}
use Rattle.std.specs.Option.{option_eq}
use Rattle.std.specs.Cmp.Lexicographic.{pointwise}
use Rattle.std.proofs.Math.Bool.{and-true}
use Rattle.std.proofs.lemmas.Bool.{and_parts, and_from, eqb-true, eq-eqb, false≢true}
use Rattle.walrus_forms.proofs.AbstractLemmas.{abstract-same, abstract-itself}
use Rattle.walrus_forms.specs.declared.value.HeapType.{HeapType}
use Rattle.walrus_forms.specs.declared.value.HeapType.TheVariants.{Abstract, Shared, Concrete, Exact}
use Rattle.walrus_forms.specs.declared.value.RefType.{RefType}
use Rattle.walrus_forms.specs.declared.value.ValType.{ValType}
use Rattle.walrus_forms.specs.declared.value.ValType.TheVariants.{I32, I64, F32, F64, V128, Ref}
use Rattle.walrus_forms.specs.declared.value.StorageType.{StorageType}
use Rattle.walrus_forms.specs.declared.value.StorageType.TheVariants.{Val, I8, I16}
use Rattle.walrus_forms.specs.declared.value.FieldType.{FieldType}
use Rattle.walrus_forms.specs.contracts.value.HeapTypePartialEq.TheImpl.{ghosts as heap_eq}
use Rattle.walrus_forms.specs.contracts.value.RefTypePartialEq.TheImpl.{ghosts as ref_eq}
use Rattle.walrus_forms.specs.contracts.value.ValTypePartialEq.TheImpl.{ghosts as value_eq}
use Rattle.walrus_forms.specs.contracts.value.StorageTypePartialEq.TheImpl.{ghosts as storage_eq}
use Rattle.walrus_forms.specs.contracts.value.FieldTypePartialEq.TheImpl.{ghosts as field_eq}
use Rattle.walrus_forms.specs.Forms.{Form, FunctionForm, StructForm, ArrayForm}
use Rattle.walrus_forms.specs.Kinds.{Kind}
use Rattle.walrus_forms.specs.Same.{same_form, same_kind, SameKindIsEquality}

-- a test that is true exactly where two values are one
record Tells {X : Type 0} (E : X → X → Bool) : Type 0 where
  same : (x y : X) → E x y ≡ true → x ≡ y
  itself : (x : X) → E x x ≡ true

bools : Tells beq
bools = record {
  same = λ x y. elim x as (λ a. beq a y ≡ true → a ≡ y) [
    | true ↦ elim y as (λ b. beq true b ≡ true → true ≡ b) [ true ↦ λ e. refl | false ↦ λ e. cc ]
    | false ↦ elim y as (λ b. beq false b ≡ true → false ≡ b) [ true ↦ λ e. cc | false ↦ λ e. refl ]
  ];
  itself = elim [ true ↦ refl | false ↦ refl ];
}

numbers : Tells nat_eq
numbers = record { same = λ x y e. eqb-true x y e; itself = λ x. eq-eqb x x refl }

options-same : {X : Type 0} {E : X → X → Bool} → Tells E → (x y : Option X) → option_eq E x y ≡ true → x ≡ y
options-same t None None e = refl
options-same t None (Some y) e = absurd (false≢true e)
options-same t (Some x) None e = absurd (false≢true e)
options-same t (Some x) (Some y) e = ap Some (t.same x y e)

options-itself : {X : Type 0} {E : X → X → Bool} → Tells E → (x : Option X) → option_eq E x x ≡ true
options-itself t None = refl
options-itself t (Some x) = t.itself x

lists-same : {X : Type 0} {E : X → X → Bool} → Tells E → (xs ys : List X) → pointwise E xs ys ≡ true → xs ≡ ys
lists-same t [] [] e = refl
lists-same t [] (y ∷ ys) e = absurd (false≢true e)
lists-same t (x ∷ xs) [] e = absurd (false≢true e)
lists-same {X} {E} t (x ∷ xs) (y ∷ ys) e =
    let parts = and_parts (E x y) (pointwise E xs ys) e in
    ap (λ (z : X). z ∷ xs) (t.same x y parts.0) ∙ ap (λ (zs : List X). y ∷ zs) (lists-same t xs ys parts.1)

lists-itself : {X : Type 0} {E : X → X → Bool} → Tells E → (xs : List X) → pointwise E xs xs ≡ true
lists-itself t [] = refl
lists-itself {X} {E} t (x ∷ xs) = and_from (E x x) (pointwise E xs xs) (t.itself x) (lists-itself t xs)

heaps-same : (x y : HeapType) → heap_eq.eq x y ≡ true → x ≡ y
heaps-same (Abstract x) (Abstract y) e = ap Abstract (abstract-same x y e)
heaps-same (Shared x) (Shared y) e = ap Shared (abstract-same x y e)
heaps-same (Concrete x) (Concrete y) e = ap Concrete (eqb-true x y (sym (and-true (nat_eq x y)) ∙ e))
heaps-same (Exact x) (Exact y) e = ap Exact (eqb-true x y (sym (and-true (nat_eq x y)) ∙ e))
heaps-same (Abstract x) (Shared y) e = absurd (false≢true e)
heaps-same (Abstract x) (Concrete y) e = absurd (false≢true e)
heaps-same (Abstract x) (Exact y) e = absurd (false≢true e)
heaps-same (Shared x) (Abstract y) e = absurd (false≢true e)
heaps-same (Shared x) (Concrete y) e = absurd (false≢true e)
heaps-same (Shared x) (Exact y) e = absurd (false≢true e)
heaps-same (Concrete x) (Abstract y) e = absurd (false≢true e)
heaps-same (Concrete x) (Shared y) e = absurd (false≢true e)
heaps-same (Concrete x) (Exact y) e = absurd (false≢true e)
heaps-same (Exact x) (Abstract y) e = absurd (false≢true e)
heaps-same (Exact x) (Shared y) e = absurd (false≢true e)
heaps-same (Exact x) (Concrete y) e = absurd (false≢true e)

heaps-itself : (x : HeapType) → heap_eq.eq x x ≡ true
heaps-itself (Abstract x) = abstract-itself x
heaps-itself (Shared x) = abstract-itself x
heaps-itself (Concrete x) = and-true (nat_eq x x) ∙ eq-eqb x x refl
heaps-itself (Exact x) = and-true (nat_eq x x) ∙ eq-eqb x x refl

options : {X : Type 0} {E : X → X → Bool} → Tells E → Tells (option_eq E)
options {X} {E} t = record { same = options-same t; itself = options-itself t }

lists : {X : Type 0} {E : X → X → Bool} → Tells E → Tells (pointwise E)
lists t = record { same = lists-same t; itself = lists-itself t }

heaps : Tells heap_eq.eq
heaps = record { same = heaps-same; itself = heaps-itself }

refs : Tells ref_eq.eq
refs = record {
  same = λ x y e.
      let parts = and_parts (beq x.nullable y.nullable) (heap_eq.eq x.heap_type y.heap_type) e in
      ap (λ (b : Bool). let r : RefType = record { nullable = b; heap_type = x.heap_type } in r) (bools.same x.nullable y.nullable parts.0)
      ∙ ap (λ (h : HeapType). let r : RefType = record { nullable = y.nullable; heap_type = h } in r) (heaps.same x.heap_type y.heap_type parts.1);
  itself = λ x. and_from (beq x.nullable x.nullable) (heap_eq.eq x.heap_type x.heap_type) (bools.itself x.nullable) (heaps.itself x.heap_type);
}

values-itself : (x : ValType) → value_eq.eq x x ≡ true
values-itself I32 = refl
values-itself I64 = refl
values-itself F32 = refl
values-itself F64 = refl
values-itself V128 = refl
values-itself (Ref r) = refs.itself r

values-same : (x y : ValType) → value_eq.eq x y ≡ true → x ≡ y
values-same I32 I32 e = refl
values-same I32 I64 e = absurd (false≢true e)
values-same I32 F32 e = absurd (false≢true e)
values-same I32 F64 e = absurd (false≢true e)
values-same I32 V128 e = absurd (false≢true e)
values-same I32 (Ref s) e = absurd (false≢true e)
values-same I64 I32 e = absurd (false≢true e)
values-same I64 I64 e = refl
values-same I64 F32 e = absurd (false≢true e)
values-same I64 F64 e = absurd (false≢true e)
values-same I64 V128 e = absurd (false≢true e)
values-same I64 (Ref s) e = absurd (false≢true e)
values-same F32 I32 e = absurd (false≢true e)
values-same F32 I64 e = absurd (false≢true e)
values-same F32 F32 e = refl
values-same F32 F64 e = absurd (false≢true e)
values-same F32 V128 e = absurd (false≢true e)
values-same F32 (Ref s) e = absurd (false≢true e)
values-same F64 I32 e = absurd (false≢true e)
values-same F64 I64 e = absurd (false≢true e)
values-same F64 F32 e = absurd (false≢true e)
values-same F64 F64 e = refl
values-same F64 V128 e = absurd (false≢true e)
values-same F64 (Ref s) e = absurd (false≢true e)
values-same V128 I32 e = absurd (false≢true e)
values-same V128 I64 e = absurd (false≢true e)
values-same V128 F32 e = absurd (false≢true e)
values-same V128 F64 e = absurd (false≢true e)
values-same V128 V128 e = refl
values-same V128 (Ref s) e = absurd (false≢true e)
values-same (Ref r) I32 e = absurd (false≢true e)
values-same (Ref r) I64 e = absurd (false≢true e)
values-same (Ref r) F32 e = absurd (false≢true e)
values-same (Ref r) F64 e = absurd (false≢true e)
values-same (Ref r) V128 e = absurd (false≢true e)
values-same (Ref r) (Ref s) e = ap Ref (refs.same r s e)

values : Tells value_eq.eq
values = record { same = values-same; itself = values-itself }

storages-same : (x y : StorageType) → storage_eq.eq x y ≡ true → x ≡ y
storages-same (Val x) (Val y) e = ap Val (values.same x y e)
storages-same I8 I8 e = refl
storages-same I16 I16 e = refl
storages-same (Val x) I8 e = absurd (false≢true e)
storages-same (Val x) I16 e = absurd (false≢true e)
storages-same I8 (Val y) e = absurd (false≢true e)
storages-same I8 I16 e = absurd (false≢true e)
storages-same I16 (Val y) e = absurd (false≢true e)
storages-same I16 I8 e = absurd (false≢true e)

storages-itself : (x : StorageType) → storage_eq.eq x x ≡ true
storages-itself (Val x) = values.itself x
storages-itself I8 = refl
storages-itself I16 = refl

storages : Tells storage_eq.eq
storages = record { same = storages-same; itself = storages-itself }

fields : Tells field_eq.eq
fields = record {
  same = λ x y e.
      let parts = and_parts (storage_eq.eq x.element_type y.element_type) (beq x.mutable y.mutable) e in
      ap (λ (t : StorageType). let f : FieldType = record { element_type = t; mutable = x.mutable } in f) (storages.same x.element_type y.element_type parts.0)
      ∙ ap (λ (b : Bool). let f : FieldType = record { element_type = y.element_type; mutable = b } in f) (bools.same x.mutable y.mutable parts.1);
  itself = λ x. and_from (storage_eq.eq x.element_type x.element_type) (beq x.mutable x.mutable) (storages.itself x.element_type) (bools.itself x.mutable);
}

forms-same : (a b : Form) → same_form a b ≡ true → a ≡ b
forms-same (FunctionForm ps rs) (FunctionForm qs ss) e =
    let parts = and_parts (pointwise value_eq.eq ps qs) (pointwise value_eq.eq rs ss) e in
    ap (λ (xs : List ValType). FunctionForm xs rs) ((lists values).same ps qs parts.0) ∙ ap (λ (xs : List ValType). FunctionForm qs xs) ((lists values).same rs ss parts.1)
forms-same (StructForm fs) (StructForm gs) e = ap StructForm ((lists fields).same fs gs e)
forms-same (ArrayForm f) (ArrayForm g) e = ap ArrayForm (fields.same f g e)
forms-same (FunctionForm ps rs) (StructForm gs) e = absurd (false≢true e)
forms-same (FunctionForm ps rs) (ArrayForm g) e = absurd (false≢true e)
forms-same (StructForm fs) (FunctionForm qs ss) e = absurd (false≢true e)
forms-same (StructForm fs) (ArrayForm g) e = absurd (false≢true e)
forms-same (ArrayForm f) (FunctionForm qs ss) e = absurd (false≢true e)
forms-same (ArrayForm f) (StructForm gs) e = absurd (false≢true e)

forms-itself : (a : Form) → same_form a a ≡ true
forms-itself (FunctionForm ps rs) = and_from (pointwise value_eq.eq ps ps) (pointwise value_eq.eq rs rs) ((lists values).itself ps) ((lists values).itself rs)
forms-itself (StructForm fs) = (lists fields).itself fs
forms-itself (ArrayForm f) = fields.itself f

kinds-same : (a b : Kind) → same_kind a b ≡ true → a ≡ b
kinds-same a b e =
    let p = and_parts (same_form a.form b.form) (beq a.final b.final && (option_eq nat_eq a.supertype b.supertype && beq a.entry b.entry)) e in
    let q = and_parts (beq a.final b.final) (option_eq nat_eq a.supertype b.supertype && beq a.entry b.entry) p.1 in
    let r = and_parts (option_eq nat_eq a.supertype b.supertype) (beq a.entry b.entry) q.1 in
    ap (λ (f : Form). let k : Kind = record { form = f; final = a.final; supertype = a.supertype; entry = a.entry } in k) (forms-same a.form b.form p.0)
    ∙ ap (λ (t : Bool). let k : Kind = record { form = b.form; final = t; supertype = a.supertype; entry = a.entry } in k) (bools.same a.final b.final q.0)
    ∙ ap (λ (o : Option ℕ). let k : Kind = record { form = b.form; final = b.final; supertype = o; entry = a.entry } in k) ((options numbers).same a.supertype b.supertype r.0)
    ∙ ap (λ (t : Bool). let k : Kind = record { form = b.form; final = b.final; supertype = b.supertype; entry = t } in k) (bools.same a.entry b.entry r.1)

kinds-itself : (a : Kind) → same_kind a a ≡ true
kinds-itself a =
    and_from (same_form a.form a.form) (beq a.final a.final && (option_eq nat_eq a.supertype a.supertype && beq a.entry a.entry)) (forms-itself a.form)
    (and_from (beq a.final a.final) (option_eq nat_eq a.supertype a.supertype && beq a.entry a.entry) (bools.itself a.final)
    (and_from (option_eq nat_eq a.supertype a.supertype) (beq a.entry a.entry) ((options numbers).itself a.supertype) (bools.itself a.entry)))

pub same-kind-law : SameKindIsEquality
same-kind-law a b = (kinds-same a b, λ is. ap (λ (k : Kind). same_kind a k) (sym is) ∙ kinds-itself a)
