-- Types are equal exactly where they are one.
use Rattle.std.proofs.Common.{◌≡◌, ◌&&◌, Bool, true, false, List, [], ◌∷◌, refl, ap, ◌∙◌}
use Rattle.std.specs.Bool.{beq}
use Rattle.std.specs.Cmp.Lexicographic.{pointwise}
use Rattle.std.proofs.lemmas.Bool.{and_parts, false≢true}
use Rattle.wasm_ref_types.specs.declared.index.UnpackedIndex.{UnpackedIndex}
use Rattle.wasm_ref_types.specs.declared.value.ValType.{ValType}
use Rattle.wasm_ref_types.specs.declared.value.ValType.TheVariants.{I32, I64, F32, F64, V128, Ref}
use Rattle.wasm_ref_types.specs.contracts.value.ValTypePartialEq.TheImpl.{ghosts as value_eq}
use Rattle.wasm_ref_types.proofs.Same.{reference-same, index-same}
use Rattle.wasm_composite_types.specs.declared.field.StorageType.{StorageType}
use Rattle.wasm_composite_types.specs.declared.field.StorageType.TheVariants.{I8, I16, Val}
use Rattle.wasm_composite_types.specs.declared.field.FieldType.{FieldType}
use Rattle.wasm_composite_types.specs.declared.form.FuncType.{FuncType}
use Rattle.wasm_composite_types.specs.declared.form.CompositeInnerType.{CompositeInnerType}
use Rattle.wasm_composite_types.specs.declared.form.CompositeInnerType.TheVariants.{Func, Array, Struct, Cont}
use Rattle.wasm_composite_types.specs.declared.form.CompositeType.{CompositeType}
use Rattle.wasm_composite_types.specs.contracts.field.StorageTypePartialEq.TheImpl.{ghosts as storage_eq}
use Rattle.wasm_composite_types.specs.contracts.field.FieldTypePartialEq.TheImpl.{ghosts as field_eq}
use Rattle.wasm_composite_types.specs.contracts.form.CompositeInnerTypePartialEq.TheImpl.{ghosts as form_eq}

pub bool_same : (a b : Bool) → beq a b ≡ true → a ≡ b
bool_same false false e = refl
bool_same false true e = absurd (false≢true e)
bool_same true false e = absurd (false≢true e)
bool_same true true e = refl

pub items_same : {A : Type 0} (eq : A → A → Bool) → ((a b : A) → eq a b ≡ true → a ≡ b) → (xs ys : List A) → pointwise eq xs ys ≡ true → xs ≡ ys
items_same eq same [] [] e = refl
items_same eq same [] (y ∷ ys) e = absurd (false≢true e)
items_same eq same (x ∷ xs) [] e = absurd (false≢true e)
items_same {A} eq same (x ∷ xs) (y ∷ ys) e =
    let parts = and_parts (eq x y) (pointwise eq xs ys) e in
    ap (λ (a : A). a ∷ xs) (same x y parts.0) ∙ ap (λ (l : List A). y ∷ l) (items_same eq same xs ys parts.1)

value_same : (a b : ValType) → value_eq.eq a b ≡ true → a ≡ b
value_same I32 I32 e = refl
value_same I32 I64 e = absurd (false≢true e)
value_same I32 F32 e = absurd (false≢true e)
value_same I32 F64 e = absurd (false≢true e)
value_same I32 V128 e = absurd (false≢true e)
value_same I32 (Ref b) e = absurd (false≢true e)
value_same I64 I32 e = absurd (false≢true e)
value_same I64 I64 e = refl
value_same I64 F32 e = absurd (false≢true e)
value_same I64 F64 e = absurd (false≢true e)
value_same I64 V128 e = absurd (false≢true e)
value_same I64 (Ref b) e = absurd (false≢true e)
value_same F32 I32 e = absurd (false≢true e)
value_same F32 I64 e = absurd (false≢true e)
value_same F32 F32 e = refl
value_same F32 F64 e = absurd (false≢true e)
value_same F32 V128 e = absurd (false≢true e)
value_same F32 (Ref b) e = absurd (false≢true e)
value_same F64 I32 e = absurd (false≢true e)
value_same F64 I64 e = absurd (false≢true e)
value_same F64 F32 e = absurd (false≢true e)
value_same F64 F64 e = refl
value_same F64 V128 e = absurd (false≢true e)
value_same F64 (Ref b) e = absurd (false≢true e)
value_same V128 I32 e = absurd (false≢true e)
value_same V128 I64 e = absurd (false≢true e)
value_same V128 F32 e = absurd (false≢true e)
value_same V128 F64 e = absurd (false≢true e)
value_same V128 V128 e = refl
value_same V128 (Ref b) e = absurd (false≢true e)
value_same (Ref a) I32 e = absurd (false≢true e)
value_same (Ref a) I64 e = absurd (false≢true e)
value_same (Ref a) F32 e = absurd (false≢true e)
value_same (Ref a) F64 e = absurd (false≢true e)
value_same (Ref a) V128 e = absurd (false≢true e)
value_same (Ref a) (Ref b) e = ap Ref (reference-same a b e)

storage_same : (a b : StorageType) → storage_eq.eq a b ≡ true → a ≡ b
storage_same I8 I8 e = refl
storage_same I8 I16 e = absurd (false≢true e)
storage_same I8 (Val b) e = absurd (false≢true e)
storage_same I16 I8 e = absurd (false≢true e)
storage_same I16 I16 e = refl
storage_same I16 (Val b) e = absurd (false≢true e)
storage_same (Val a) I8 e = absurd (false≢true e)
storage_same (Val a) I16 e = absurd (false≢true e)
storage_same (Val a) (Val b) e = ap Val (value_same a b e)

field_same : (a b : FieldType) → field_eq.eq a b ≡ true → a ≡ b
field_same a b e =
    let parts = and_parts _ _ e in
    let make : StorageType → Bool → FieldType = λ s m. record { element_type = s; mutable = m } in
    ap (λ (s : StorageType). make s a.mutable) (storage_same a.element_type b.element_type parts.0) ∙ ap (λ (m : Bool). make b.element_type m) (bool_same a.mutable b.mutable parts.1)

func_same : (a b : FuncType) → form_eq.eq (Func a) (Func b) ≡ true → a ≡ b
func_same a b e =
    let parts = and_parts _ _ e in
    let make : List ValType → List ValType → FuncType = λ p r. record { params = p; results = r } in
    ap (λ (p : List ValType). make p a.results) (items_same value_eq.eq value_same a.params b.params parts.0)
    ∙ ap (λ (r : List ValType). make b.params r) (items_same value_eq.eq value_same a.results b.results parts.1)

form_same : (a b : CompositeInnerType) → form_eq.eq a b ≡ true → a ≡ b
form_same (Func a) (Func b) e = ap Func (func_same a b e)
form_same (Func a) (Array b) e = absurd (false≢true e)
form_same (Func a) (Struct b) e = absurd (false≢true e)
form_same (Func a) (Cont b) e = absurd (false≢true e)
form_same (Array a) (Func b) e = absurd (false≢true e)
form_same (Array a) (Array b) e = ap (λ (f : FieldType). Array (record { 0 = f })) (field_same a.0 b.0 e)
form_same (Array a) (Struct b) e = absurd (false≢true e)
form_same (Array a) (Cont b) e = absurd (false≢true e)
form_same (Struct a) (Func b) e = absurd (false≢true e)
form_same (Struct a) (Array b) e = absurd (false≢true e)
form_same (Struct a) (Struct b) e = ap (λ (l : List FieldType). Struct (record { fields = l })) (items_same field_eq.eq field_same a.fields b.fields e)
form_same (Struct a) (Cont b) e = absurd (false≢true e)
form_same (Cont a) (Func b) e = absurd (false≢true e)
form_same (Cont a) (Array b) e = absurd (false≢true e)
form_same (Cont a) (Struct b) e = absurd (false≢true e)
form_same (Cont a) (Cont b) e = ap (λ (i : UnpackedIndex). Cont (record { 0 = i })) (index-same a.0 b.0 e)

pub composite_same : (a b : CompositeType) → (form_eq.eq a.inner b.inner && beq a.shared b.shared) ≡ true → a ≡ b
composite_same a b e =
    let parts = and_parts (form_eq.eq a.inner b.inner) (beq a.shared b.shared) e in
    let make : CompositeInnerType → Bool → CompositeType = λ f s. record { inner = f; shared = s } in
    ap (λ (f : CompositeInnerType). make f a.shared) (form_same a.inner b.inner parts.0) ∙ ap (λ (s : Bool). make b.inner s) (bool_same a.shared b.shared parts.1)
