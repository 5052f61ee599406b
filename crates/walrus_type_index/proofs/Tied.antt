-- Kinds that tie in the order are one.
use Rattle.std.proofs.Common.{◌≡◌, ◌∙◌, ℕ, zero, suc, inl, inr, Bool, true, false, ◌==◌, cond, List, [], ◌∷◌, Option, Some, None, refl, sym, ap, nat_lt, Ordering, Less, Equal, Greater, is_eq}
use Rattle.std.specs.Ordering.{ordering_then, bool_cmp, nat_cmp}
use Rattle.std.specs.Option.{option_cmp}
use Rattle.std.specs.Cmp.Lexicographic.{slice_cmp}
use Rattle.std.proofs.lemmas.Bool.{cases_Bool, false≢true, eqb-true}
use Rattle.walrus_items.specs.walrus_forms.declared.value.AbstractHeapType.{AbstractHeapType}
use Rattle.walrus_items.specs.walrus_forms.declared.value.AbstractHeapType.TheVariants.{Func, Extern, Any, None as NoneType, NoExtern, NoFunc, Eq, Struct, Array, I31, Exn, NoExn}
use Rattle.walrus_items.specs.walrus_forms.declared.value.HeapType.{HeapType}
use Rattle.walrus_items.specs.walrus_forms.declared.value.HeapType.TheVariants.{Abstract, Shared, Concrete, Exact}
use Rattle.walrus_items.specs.walrus_forms.declared.value.RefType.{RefType}
use Rattle.walrus_items.specs.walrus_forms.declared.value.ValType.{ValType}
use Rattle.walrus_items.specs.walrus_forms.declared.value.ValType.TheVariants.{I32, I64, F32, F64, V128, Ref}
use Rattle.walrus_items.specs.walrus_forms.declared.value.StorageType.{StorageType}
use Rattle.walrus_items.specs.walrus_forms.declared.value.StorageType.TheVariants.{Val, I8, I16}
use Rattle.walrus_items.specs.walrus_forms.declared.value.FieldType.{FieldType}
use Rattle.walrus_items.specs.walrus_forms.contracts.value.ValTypeOrd.TheImpl.{ghosts as value_ord}
use Rattle.walrus_items.specs.walrus_forms.contracts.value.FieldTypeOrd.TheImpl.{ghosts as field_ord}
use Rattle.walrus_items.specs.walrus_forms.ValueOrder.{abstract_place, heap_cmp, ref_cmp, value_cmp, storage_cmp}
use Rattle.walrus_items.specs.walrus_forms.Forms.{Form, FunctionForm, StructForm, ArrayForm}
use Rattle.walrus_items.specs.walrus_forms.Kinds.{Kind}
use Rattle.walrus_items.specs.walrus_forms.Order.{form_cmp, kind_cmp}
use Rattle.walrus_items.proofs.walrus_forms.PlaceLemmas.{value-places, field-places}

-- an order in which values that tie are one
abbrev Ties : {X : Type 0} → (X → X → Ordering) → Type 0
Ties {X} cmp = (x y : X) → cmp x y ≡ Equal → x ≡ y

less-apart : Less ≡ Equal → ⊥
less-apart e = false≢true (ap is_eq e)

greater-apart : Greater ≡ Equal → ⊥
greater-apart e = false≢true (ap is_eq e)

then-parts : (o p : Ordering) → ordering_then o p ≡ Equal → (o ≡ Equal) × (p ≡ Equal)
then-parts Less p e = absurd (less-apart e)
then-parts Equal p e = (refl, e)
then-parts Greater p e = absurd (greater-apart e)

numbers : Ties nat_cmp
numbers x y e =
    elim (cases_Bool (nat_lt x y)) as (λ _. x ≡ y) [
      | inl less ↦ absurd (less-apart (ap (λ (b : Bool). cond b Less (cond (x == y) Equal Greater)) (sym less) ∙ e))
      | inr past ↦
          let rest : cond (x == y) Equal Greater ≡ Equal = ap (λ (b : Bool). cond b Less (cond (x == y) Equal Greater)) (sym past) ∙ e in
          elim (cases_Bool (x == y)) as (λ _. x ≡ y) [
            | inl same ↦ eqb-true x y same
            | inr other ↦ absurd (greater-apart (ap (λ (b : Bool). cond b Equal Greater) (sym other) ∙ rest))
          ]
    ]

bools : Ties bool_cmp
bools false false e = refl
bools false true e = absurd (less-apart e)
bools true false e = absurd (greater-apart e)
bools true true e = refl

options : {X : Type 0} (cmp : X → X → Ordering) → Ties cmp → Ties (option_cmp cmp)
options cmp t None None e = refl
options cmp t None (Some y) e = absurd (less-apart e)
options cmp t (Some x) None e = absurd (greater-apart e)
options cmp t (Some x) (Some y) e = ap Some (t x y e)

lists : {X : Type 0} (cmp : X → X → Ordering) → Ties cmp → Ties (slice_cmp cmp)
lists cmp t [] [] e = refl
lists cmp t [] (y ∷ ys) e = absurd (less-apart e)
lists cmp t (x ∷ xs) [] e = absurd (greater-apart e)
lists {X} cmp t (x ∷ xs) (y ∷ ys) e =
    let parts = then-parts (cmp x y) (slice_cmp cmp xs ys) e in
    ap (λ (z : X). z ∷ xs) (t x y parts.0) ∙ ap (λ (zs : List X). y ∷ zs) (lists cmp t xs ys parts.1)

-- the abstract heap type of a place
abstract_at : ℕ → AbstractHeapType
abstract_at zero = Func
abstract_at (suc zero) = Extern
abstract_at (suc (suc zero)) = Any
abstract_at (suc (suc (suc zero))) = NoneType
abstract_at (suc (suc (suc (suc zero)))) = NoExtern
abstract_at (suc (suc (suc (suc (suc zero))))) = NoFunc
abstract_at (suc (suc (suc (suc (suc (suc zero)))))) = Eq
abstract_at (suc (suc (suc (suc (suc (suc (suc zero))))))) = Struct
abstract_at (suc (suc (suc (suc (suc (suc (suc (suc zero)))))))) = Array
abstract_at (suc (suc (suc (suc (suc (suc (suc (suc (suc zero))))))))) = I31
abstract_at (suc (suc (suc (suc (suc (suc (suc (suc (suc (suc zero)))))))))) = Exn
abstract_at (suc (suc (suc (suc (suc (suc (suc (suc (suc (suc (suc rest))))))))))) = NoExn

abstract-back : (a : AbstractHeapType) → abstract_at (abstract_place a) ≡ a
unfolding abstract_at
abstract-back Func = refl
abstract-back Extern = refl
abstract-back Any = refl
abstract-back NoneType = refl
abstract-back NoExtern = refl
abstract-back NoFunc = refl
abstract-back Eq = refl
abstract-back Struct = refl
abstract-back Array = refl
abstract-back I31 = refl
abstract-back Exn = refl
abstract-back NoExn = refl

abstracts : Ties (λ (a : AbstractHeapType) (b : AbstractHeapType). nat_cmp (abstract_place a) (abstract_place b))
abstracts a b e = sym (abstract-back a) ∙ ap abstract_at (numbers (abstract_place a) (abstract_place b) e) ∙ abstract-back b

heaps : Ties heap_cmp
heaps (Abstract a) (Abstract b) e = ap Abstract (abstracts a b e)
heaps (Abstract a) (Shared b) e = absurd (less-apart e)
heaps (Abstract a) (Concrete y) e = absurd (less-apart e)
heaps (Abstract a) (Exact y) e = absurd (less-apart e)
heaps (Shared a) (Abstract b) e = absurd (greater-apart e)
heaps (Shared a) (Shared b) e = ap Shared (abstracts a b e)
heaps (Shared a) (Concrete y) e = absurd (less-apart e)
heaps (Shared a) (Exact y) e = absurd (less-apart e)
heaps (Concrete x) (Abstract b) e = absurd (greater-apart e)
heaps (Concrete x) (Shared b) e = absurd (greater-apart e)
heaps (Concrete x) (Concrete y) e = ap Concrete (numbers x y e)
heaps (Concrete x) (Exact y) e = absurd (less-apart e)
heaps (Exact x) (Abstract b) e = absurd (greater-apart e)
heaps (Exact x) (Shared b) e = absurd (greater-apart e)
heaps (Exact x) (Concrete y) e = absurd (greater-apart e)
heaps (Exact x) (Exact y) e = ap Exact (numbers x y e)

refs : Ties ref_cmp
refs x y e =
    let parts = then-parts (bool_cmp x.nullable y.nullable) (heap_cmp x.heap_type y.heap_type) e in
    ap (λ (b : Bool). let r : RefType = record { nullable = b; heap_type = x.heap_type } in r) (bools x.nullable y.nullable parts.0)
    ∙ ap (λ (h : HeapType). let r : RefType = record { nullable = y.nullable; heap_type = h } in r) (heaps x.heap_type y.heap_type parts.1)

values : Ties value_cmp
values I32 I32 e = refl
values I32 I64 e = absurd (less-apart e)
values I32 F32 e = absurd (less-apart e)
values I32 F64 e = absurd (less-apart e)
values I32 V128 e = absurd (less-apart e)
values I32 (Ref s) e = absurd (less-apart e)
values I64 I32 e = absurd (greater-apart e)
values I64 I64 e = refl
values I64 F32 e = absurd (less-apart e)
values I64 F64 e = absurd (less-apart e)
values I64 V128 e = absurd (less-apart e)
values I64 (Ref s) e = absurd (less-apart e)
values F32 I32 e = absurd (greater-apart e)
values F32 I64 e = absurd (greater-apart e)
values F32 F32 e = refl
values F32 F64 e = absurd (less-apart e)
values F32 V128 e = absurd (less-apart e)
values F32 (Ref s) e = absurd (less-apart e)
values F64 I32 e = absurd (greater-apart e)
values F64 I64 e = absurd (greater-apart e)
values F64 F32 e = absurd (greater-apart e)
values F64 F64 e = refl
values F64 V128 e = absurd (less-apart e)
values F64 (Ref s) e = absurd (less-apart e)
values V128 I32 e = absurd (greater-apart e)
values V128 I64 e = absurd (greater-apart e)
values V128 F32 e = absurd (greater-apart e)
values V128 F64 e = absurd (greater-apart e)
values V128 V128 e = refl
values V128 (Ref s) e = absurd (less-apart e)
values (Ref r) I32 e = absurd (greater-apart e)
values (Ref r) I64 e = absurd (greater-apart e)
values (Ref r) F32 e = absurd (greater-apart e)
values (Ref r) F64 e = absurd (greater-apart e)
values (Ref r) V128 e = absurd (greater-apart e)
values (Ref r) (Ref s) e = ap Ref (refs r s e)

storages : Ties storage_cmp
storages (Val a) (Val b) e = ap Val (values a b e)
storages (Val a) I8 e = absurd (less-apart e)
storages (Val a) I16 e = absurd (less-apart e)
storages I8 (Val b) e = absurd (greater-apart e)
storages I8 I8 e = refl
storages I8 I16 e = absurd (less-apart e)
storages I16 (Val b) e = absurd (greater-apart e)
storages I16 I8 e = absurd (greater-apart e)
storages I16 I16 e = refl

fields : Ties field_ord.cmp
fields x y e =
    let parts = then-parts (storage_cmp x.element_type y.element_type) (bool_cmp x.mutable y.mutable) (sym (field-places x y) ∙ e) in
    ap (λ (t : StorageType). let f : FieldType = record { element_type = t; mutable = x.mutable } in f) (storages x.element_type y.element_type parts.0)
    ∙ ap (λ (b : Bool). let f : FieldType = record { element_type = y.element_type; mutable = b } in f) (bools x.mutable y.mutable parts.1)

ranked : Ties value_ord.cmp
ranked x y e = values x y (sym (value-places x y) ∙ e)

forms : Ties form_cmp
forms (FunctionForm ps rs) (FunctionForm qs ss) e =
    let parts = then-parts (slice_cmp value_ord.cmp ps qs) (slice_cmp value_ord.cmp rs ss) e in
    ap (λ (xs : List ValType). FunctionForm xs rs) (lists value_ord.cmp ranked ps qs parts.0) ∙ ap (λ (xs : List ValType). FunctionForm qs xs) (lists value_ord.cmp ranked rs ss parts.1)
forms (FunctionForm ps rs) (StructForm gs) e = absurd (less-apart e)
forms (FunctionForm ps rs) (ArrayForm g) e = absurd (less-apart e)
forms (StructForm fs) (FunctionForm qs ss) e = absurd (greater-apart e)
forms (StructForm fs) (StructForm gs) e = ap StructForm (lists field_ord.cmp fields fs gs e)
forms (StructForm fs) (ArrayForm g) e = absurd (less-apart e)
forms (ArrayForm f) (FunctionForm qs ss) e = absurd (greater-apart e)
forms (ArrayForm f) (StructForm gs) e = absurd (greater-apart e)
forms (ArrayForm f) (ArrayForm g) e = ap ArrayForm (fields f g e)

pub tied : (a b : Kind) → kind_cmp a b ≡ Equal → a ≡ b
tied a b e =
    let p = then-parts (form_cmp a.form b.form) (ordering_then (bool_cmp a.final b.final) (ordering_then (option_cmp nat_cmp a.supertype b.supertype) (bool_cmp a.entry b.entry))) e in
    let q = then-parts (bool_cmp a.final b.final) (ordering_then (option_cmp nat_cmp a.supertype b.supertype) (bool_cmp a.entry b.entry)) p.1 in
    let r = then-parts (option_cmp nat_cmp a.supertype b.supertype) (bool_cmp a.entry b.entry) q.1 in
    ap (λ (f : Form). let k : Kind = record { form = f; final = a.final; supertype = a.supertype; entry = a.entry } in k) (forms a.form b.form p.0)
    ∙ ap (λ (t : Bool). let k : Kind = record { form = b.form; final = t; supertype = a.supertype; entry = a.entry } in k) (bools a.final b.final q.0)
    ∙ ap (λ (o : Option ℕ). let k : Kind = record { form = b.form; final = b.final; supertype = o; entry = a.entry } in k) (options nat_cmp numbers a.supertype b.supertype r.0)
    ∙ ap (λ (t : Bool). let k : Kind = record { form = b.form; final = b.final; supertype = b.supertype; entry = t } in k) (bools a.entry b.entry r.1)
