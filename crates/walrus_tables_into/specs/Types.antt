-- Types whose names were numbers of a file, in a module.
use Rattle.std.specs.Prelude.{ℕ, ◌≡◌, Bool, Option, Some, None, Result, Ok, Err, refl}
use Rattle.std.specs.Option.{ok_or, unwrap_or}
use Rattle.std.proofs.Common.{ap, sym, ◌∙◌}
use Rattle.walrus_sections_into.specs.walrus_forms.declared.value.HeapType.{HeapType}
use Rattle.walrus_sections_into.specs.walrus_forms.declared.value.HeapType.TheVariants.{Abstract, Shared, Concrete, Exact}
use Rattle.walrus_sections_into.specs.walrus_forms.declared.value.RefType.{RefType}
use Rattle.walrus_sections_into.specs.walrus_forms.declared.value.ValType.{ValType}
use Rattle.walrus_sections_into.specs.walrus_forms.declared.value.ValType.TheVariants.{I32, I64, F32, F64, V128, Ref}
use Rattle.walrus_sections_into.specs.walrus_forms.Renaming.{renamed_heap, renamed_ref, renamed_value}
use Rattle.walrus_sections_into.specs.wasm_operators.Items.{Types}
use Rattle.walrus_sections_into.specs.walrus_pairing.Looks.{Look}
use Rattle.walrus_sections_into.specs.Becomes.{renames_by}
use Rattle.walrus_sections_into.specs.declared.error.IntoError.{IntoError}
use Rattle.walrus_sections_into.specs.declared.error.IntoError.TheVariants.{Unknown}

-- a value, or why there is none
abbrev pub Or : Type 0 → Type 0
Or A = Result A IntoError

infixl 10 ◌>>=◌
abbrev pub ◌>>=◌ : {A B : Type 0} → Or A → (A → Or B) → Or B
(Ok x) >>= f = f x
(Err e) >>= f = Err e

-- the type that a number names
abbrev pub type_in : Look → ℕ → Or ℕ
type_in look n = ok_or (look Types n) Unknown

-- the same type, the type that it names by its id; it is refused where it names none
abbrev pub heap_in : Look → HeapType → Or HeapType
heap_in look (Abstract kind) = Ok (Abstract kind)
heap_in look (Shared kind) = Ok (Shared kind)
heap_in look (Concrete n) = type_in look n >>= λ id. Ok (Concrete id)
heap_in look (Exact n) = type_in look n >>= λ id. Ok (Exact id)

abbrev pub ref_in : Look → RefType → Or RefType
ref_in look ty = heap_in look ty.heap_type >>= λ heap. Ok (record { nullable = ty.nullable; heap_type = heap })

abbrev pub value_in : Look → ValType → Or ValType
value_in look I32 = Ok I32
value_in look I64 = Ok I64
value_in look F32 = Ok F32
value_in look F64 = Ok F64
value_in look V128 = Ok V128
value_in look (Ref ty) = ref_in look ty >>= λ out. Ok (Ref out)

-- ---- Lemmas: such a type is the same, renamed

abbrev good : {A : Type 0} → A → Or A
good x = Ok x

good_is : {A : Type 0} (x y : A) → good x ≡ good y → x ≡ y
good_is x y e = cc

heap_by : (look : Look) (n : ℕ) (wrap : ℕ → HeapType) (found : Option ℕ) (heap : HeapType) → look Types n ≡ found → (ok_or found Unknown >>= λ id. Ok (wrap id)) ≡ Ok heap → heap ≡ wrap (renames_by look Types n)
heap_by look n wrap (Some id) heap is e = sym (good_is (wrap id) heap e) ∙ ap (λ (o : Option ℕ). wrap (unwrap_or o n)) (sym is)
heap_by look n wrap None heap is e = absurd cc

pub heap_renamed : (look : Look) (ty heap : HeapType) → heap_in look ty ≡ Ok heap → heap ≡ renamed_heap (renames_by look Types) ty
heap_renamed look (Abstract kind) heap e = sym (good_is (Abstract kind) heap e)
heap_renamed look (Shared kind) heap e = sym (good_is (Shared kind) heap e)
heap_renamed look (Concrete n) heap e = heap_by look n Concrete (look Types n) heap refl e
heap_renamed look (Exact n) heap e = heap_by look n Exact (look Types n) heap refl e

ref_by : (look : Look) (nullable : Bool) (ty : HeapType) (read : Or HeapType) (out : RefType) → heap_in look ty ≡ read → (read >>= λ heap. Ok (record { nullable = nullable; heap_type = heap })) ≡ Ok out
    → out ≡ record { nullable = nullable; heap_type = renamed_heap (renames_by look Types) ty }
ref_by look nullable ty (Ok heap) out is e =
    sym (good_is (record { nullable = nullable; heap_type = heap }) out e) ∙ ap (λ (h : HeapType). record { nullable = nullable; heap_type = h }) (heap_renamed look ty heap is)
ref_by look nullable ty (Err d) out is e = absurd cc

pub ref_renamed : (look : Look) (ty out : RefType) → ref_in look ty ≡ Ok out → out ≡ renamed_ref (renames_by look Types) ty
ref_renamed look ty out e = ref_by look ty.nullable ty.heap_type (heap_in look ty.heap_type) out refl e

value_by : (look : Look) (ty : RefType) (read : Or RefType) (value : ValType) → ref_in look ty ≡ read → (read >>= λ out. Ok (Ref out)) ≡ Ok value → value ≡ Ref (renamed_ref (renames_by look Types) ty)
value_by look ty (Ok out) value is e = sym (good_is (Ref out) value e) ∙ ap Ref (ref_renamed look ty out is)
value_by look ty (Err d) value is e = absurd cc

pub value_renamed : (look : Look) (ty value : ValType) → value_in look ty ≡ Ok value → value ≡ renamed_value (renames_by look Types) ty
value_renamed look I32 value e = sym (good_is I32 value e)
value_renamed look I64 value e = sym (good_is I64 value e)
value_renamed look F32 value e = sym (good_is F32 value e)
value_renamed look F64 value e = sym (good_is F64 value e)
value_renamed look V128 value e = sym (good_is V128 value e)
value_renamed look (Ref ty) value e = value_by look ty (ref_in look ty) value refl e
