-- The order of kinds turned round, and kinds with each name kept.
use Rattle.std.proofs.Common.{◌≡◌, ◌∙◌, ℕ, true, false, List, [], ◌∷◌, map, Option, Some, None, Ordering, refl, sym, ap}
use Rattle.std.specs.declared.cmp.Ordering.TheVariants.{Less, Equal, Greater}
use Rattle.std.specs.Ordering.{ordering_then, ordering_reverse, bool_cmp, nat_cmp}
use Rattle.std.specs.Option.{option_cmp, option_map}
use Rattle.std.specs.Cmp.{IsTotalOrder}
use Rattle.std.specs.Cmp.Lexicographic.{slice_cmp}
use Rattle.std.proofs.lemmas.Cmp.{lists_total, nat_cmp_total}
use Rattle.walrus_forms.specs.declared.value.HeapType.{HeapType}
use Rattle.walrus_forms.specs.declared.value.HeapType.TheVariants.{Abstract, Shared, Concrete, Exact}
use Rattle.walrus_forms.specs.declared.value.RefType.{RefType}
use Rattle.walrus_forms.specs.declared.value.ValType.{ValType}
use Rattle.walrus_forms.specs.declared.value.ValType.TheVariants.{I32, I64, F32, F64, V128, Ref}
use Rattle.walrus_forms.specs.declared.value.StorageType.{StorageType}
use Rattle.walrus_forms.specs.declared.value.StorageType.TheVariants.{Val, I8, I16}
use Rattle.walrus_forms.specs.declared.value.FieldType.{FieldType}
use Rattle.walrus_forms.specs.contracts.value.ValTypeOrd.TheImpl.{ghosts as value_ord}
use Rattle.walrus_forms.specs.contracts.value.ValTypeOrd.TheImpl.Laws as value_laws
use Rattle.walrus_forms.specs.contracts.value.FieldTypeOrd.TheImpl.Laws as field_laws
use Rattle.walrus_forms.specs.Forms.{Form, FunctionForm, StructForm, ArrayForm}
use Rattle.walrus_forms.specs.Kinds.{Kind}
use Rattle.walrus_forms.specs.Order.{form_cmp, kind_cmp}
use Rattle.walrus_forms.specs.Renaming.{renamed_heap, renamed_value, renamed_storage, renamed_field, renamed_form, renamed_kind}

abbrev Turned : {K : Type 0} → (K → K → Ordering) → Type 0
Turned {K} cmp = (a b : K) → cmp a b ≡ ordering_reverse (cmp b a)

reverse-then : (o p : Ordering) → ordering_reverse (ordering_then o p) ≡ ordering_then (ordering_reverse o) (ordering_reverse p)
reverse-then Less p = refl
reverse-then Equal p = refl
reverse-then Greater p = refl

then-turned : (a b c d : Ordering) → a ≡ ordering_reverse c → b ≡ ordering_reverse d → ordering_then a b ≡ ordering_reverse (ordering_then c d)
then-turned a b c d first second =
    ap (λ (o : Ordering). ordering_then o b) first ∙ ap (λ (o : Ordering). ordering_then (ordering_reverse c) o) second ∙ sym (reverse-then c d)

values : IsTotalOrder (slice_cmp value_ord.cmp)
values = lists_total value_laws.total-law

forms-turned : Turned form_cmp
forms-turned (FunctionForm ps rs) (FunctionForm qs ss) =
    then-turned (slice_cmp value_ord.cmp ps qs) (slice_cmp value_ord.cmp rs ss) (slice_cmp value_ord.cmp qs ps) (slice_cmp value_ord.cmp ss rs) (values.antisymm ps qs) (values.antisymm rs ss)
forms-turned (FunctionForm ps rs) (StructForm fs) = refl
forms-turned (FunctionForm ps rs) (ArrayForm f) = refl
forms-turned (StructForm fs) (FunctionForm ps rs) = refl
forms-turned (StructForm fs) (StructForm gs) = (lists_total field_laws.total-law).antisymm fs gs
forms-turned (StructForm fs) (ArrayForm f) = refl
forms-turned (ArrayForm f) (FunctionForm ps rs) = refl
forms-turned (ArrayForm f) (StructForm fs) = refl
forms-turned (ArrayForm f) (ArrayForm g) = field_laws.total-law.antisymm f g

bools-turned : Turned bool_cmp
bools-turned false false = refl
bools-turned false true = refl
bools-turned true false = refl
bools-turned true true = refl

options-turned : Turned (option_cmp nat_cmp)
options-turned None None = refl
options-turned None (Some y) = refl
options-turned (Some x) None = refl
options-turned (Some x) (Some y) = nat_cmp_total.antisymm x y

pub kinds-turned : (a b : Kind) → kind_cmp a b ≡ ordering_reverse (kind_cmp b a)
kinds-turned a b =
    then-turned (form_cmp a.form b.form) (ordering_then (bool_cmp a.final b.final) (ordering_then (option_cmp nat_cmp a.supertype b.supertype) (bool_cmp a.entry b.entry)))
    (form_cmp b.form a.form) (ordering_then (bool_cmp b.final a.final) (ordering_then (option_cmp nat_cmp b.supertype a.supertype) (bool_cmp b.entry a.entry)))
    (forms-turned a.form b.form)
    (then-turned (bool_cmp a.final b.final) (ordering_then (option_cmp nat_cmp a.supertype b.supertype) (bool_cmp a.entry b.entry))
    (bool_cmp b.final a.final) (ordering_then (option_cmp nat_cmp b.supertype a.supertype) (bool_cmp b.entry a.entry))
    (bools-turned a.final b.final)
    (then-turned (option_cmp nat_cmp a.supertype b.supertype) (bool_cmp a.entry b.entry) (option_cmp nat_cmp b.supertype a.supertype) (bool_cmp b.entry a.entry)
    (options-turned a.supertype b.supertype) (bools-turned a.entry b.entry)))

-- each name kept
lists-kept : {X : Type 0} (F : X → X) → ((x : X) → F x ≡ x) → (xs : List X) → map F xs ≡ xs
lists-kept F each [] = refl
lists-kept {X} F each (x ∷ xs) = ap (λ (y : X). y ∷ map F xs) (each x) ∙ ap (λ (ys : List X). x ∷ ys) (lists-kept F each xs)

heaps-kept : (h : HeapType) → renamed_heap (λ m. m) h ≡ h
heaps-kept (Abstract ty) = refl
heaps-kept (Shared ty) = refl
heaps-kept (Concrete m) = refl
heaps-kept (Exact m) = refl

values-kept : (v : ValType) → renamed_value (λ m. m) v ≡ v
values-kept I32 = refl
values-kept I64 = refl
values-kept F32 = refl
values-kept F64 = refl
values-kept V128 = refl
values-kept (Ref r) = ap (λ (h : HeapType). let t : RefType = record { nullable = r.nullable; heap_type = h } in Ref t) (heaps-kept r.heap_type)

storages-kept : (s : StorageType) → renamed_storage (λ m. m) s ≡ s
storages-kept (Val v) = ap Val (values-kept v)
storages-kept I8 = refl
storages-kept I16 = refl

fields-kept : (x : FieldType) → renamed_field (λ m. m) x ≡ x
fields-kept x = ap (λ (s : StorageType). let t : FieldType = record { element_type = s; mutable = x.mutable } in t) (storages-kept x.element_type)

forms-kept : (form : Form) → renamed_form (λ m. m) form ≡ form
forms-kept (FunctionForm ps rs) =
    ap (λ (vs : List ValType). FunctionForm vs (map (renamed_value (λ m. m)) rs)) (lists-kept (renamed_value (λ m. m)) values-kept ps)
    ∙ ap (λ (vs : List ValType). FunctionForm ps vs) (lists-kept (renamed_value (λ m. m)) values-kept rs)
forms-kept (StructForm fs) = ap StructForm (lists-kept (renamed_field (λ m. m)) fields-kept fs)
forms-kept (ArrayForm x) = ap ArrayForm (fields-kept x)

options-kept : (o : Option ℕ) → option_map (λ m. m) o ≡ o
options-kept None = refl
options-kept (Some x) = refl

pub kinds-kept : (k : Kind) → renamed_kind (λ m. m) k ≡ k
kinds-kept k =
    ap (λ (x : Form). let j : Kind = record { form = x; final = k.final; supertype = option_map (λ m. m) k.supertype; entry = k.entry } in j) (forms-kept k.form)
    ∙ ap (λ (o : Option ℕ). let j : Kind = record { form = k.form; final = k.final; supertype = o; entry = k.entry } in j) (options-kept k.supertype)
