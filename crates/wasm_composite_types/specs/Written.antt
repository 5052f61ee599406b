-- Lemmas: each type within the limits, with indices of the module below 2^20, has bytes that spell it.
use Rattle.std.specs.Prelude.{ℕ, ◌<◌, ◌^◌, ◌≡◌, Bool, true, false, List, [], ◌∷◌, ◌++◌, Ok, refl}
use Rattle.std.proofs.Common.{ap, sym, ◌∙◌, arith}
use Rattle.std.proofs.lemmas.List.{append-nil}
use Rattle.wasm_ref_types.specs.wasm_features.declared.WasmFeatures.{WasmFeatures}
use Rattle.wasm_ref_types.specs.wasm_reader.Reading.{Reading}
use Rattle.wasm_ref_types.specs.wasm_reader.Items.{SpellsVec}
use Rattle.wasm_ref_types.specs.wasm_reader.Laws.{TakesSpelled}
use Rattle.wasm_ref_types.specs.wasm_reader.Vecs.{vec_spelled}
use Rattle.wasm_ref_types.specs.TypeSpellings.{HasGcTypes, SpellsValue, MayBeShared, IsWrittenValue, ReadsWritten}
use Rattle.wasm_ref_types.specs.TypesTaken.{value_spelled, spelled_read}
use Rattle.wasm_ref_types.specs.declared.value.ValType.{ValType}
use Rattle.wasm_composite_types.specs.declared.field.StorageType.{StorageType}
use Rattle.wasm_composite_types.specs.declared.field.StorageType.TheVariants.{I8, I16, Val}
use Rattle.wasm_composite_types.specs.declared.field.FieldType.{FieldType}
use Rattle.wasm_composite_types.specs.declared.form.FuncType.{FuncType}
use Rattle.wasm_composite_types.specs.declared.form.ArrayType.{ArrayType}
use Rattle.wasm_composite_types.specs.declared.form.StructType.{StructType}
use Rattle.wasm_composite_types.specs.declared.form.CompositeType.{CompositeType}
use Rattle.wasm_composite_types.specs.declared.form.CompositeInnerType.{CompositeInnerType}
use Rattle.wasm_composite_types.specs.declared.form.CompositeInnerType.TheVariants.{Func, Array, Struct, Cont}
use Rattle.wasm_composite_types.specs.Readings.{storage_at, field_at, func_at, array_at, struct_at, composite_at}
use Rattle.wasm_composite_types.specs.Spellings.{SpellsStorage, SpellsMutable, SpellsField, SpellsFunc, SpellsArray, SpellsStruct, SpellsForm, SpellsEither, SpellsComposite, IsWrittenStorage, IsWrittenField, AtMost, IsWrittenFunc, IsWrittenArray, IsWrittenStruct, IsWrittenForm, IsWrittenComposite}
use Rattle.wasm_composite_types.specs.TypesTaken.{storage_taken, field_taken, func_taken, array_taken, struct_taken, composite_taken}

mutable_spelled : (mutable : Bool) → (bytes : List ℕ) × SpellsMutable bytes mutable
mutable_spelled false = (0x00 ∷ [], refl)
mutable_spelled true = (0x01 ∷ [], refl)

-- a vec of written items, no more than a u32 counts
pub items_spelled : {A : Type 0} (limit : ℕ) (spells : List ℕ → A → Type 0) (Written : A → Type 0) → limit < 2 ^ 32 → ((x : A) → Written x → (bytes : List ℕ) × spells bytes x)
    → (items : List A) → AtMost limit Written items → (bytes : List ℕ) × SpellsVec limit spells bytes items
items_spelled limit spells Written fits each items h = vec_spelled limit spells items h.0 (omega (arith, h.0)) (λ k d low. each _ (h.1 k d low))

module _ (features : WasmFeatures) (gc : HasGcTypes features) where
  storage_spelled : (ty : StorageType) → IsWrittenStorage features ty → (bytes : List ℕ) × SpellsStorage features bytes ty
  storage_spelled I8 h = (0x78 ∷ [], refl)
  storage_spelled I16 h = (0x77 ∷ [], refl)
  storage_spelled (Val ty) h = value_spelled features ty gc h

  field_spelled : (field : FieldType) → IsWrittenField features field → (bytes : List ℕ) × SpellsField features bytes field
  field_spelled field h =
      let storage = storage_spelled field.element_type h in
      let mutable = mutable_spelled field.mutable in
      (storage.0 ++ mutable.0, (storage.0, mutable.0, refl, storage.1, mutable.1))

  values_spelled : (types : List ValType) → AtMost 1000 (IsWrittenValue features) types → (bytes : List ℕ) × SpellsVec 1000 (SpellsValue features) bytes types
  values_spelled = items_spelled 1000 (SpellsValue features) (IsWrittenValue features) (omega arith) (λ ty. value_spelled features ty gc)

  func_spelled : (ty : FuncType) → IsWrittenFunc features ty → (bytes : List ℕ) × SpellsFunc features bytes ty
  func_spelled ty h =
      let params = values_spelled ty.params h.0 in
      let results = values_spelled ty.results h.1 in
      (params.0 ++ results.0, (params.0, results.0, refl, params.1, results.1))

  struct_spelled : (ty : StructType) → IsWrittenStruct features ty → (bytes : List ℕ) × SpellsStruct features bytes ty
  struct_spelled ty h = items_spelled 10000 (SpellsField features) (IsWrittenField features) (omega arith) field_spelled ty.fields h

  array_spelled : (ty : ArrayType) → IsWrittenArray features ty → (bytes : List ℕ) × SpellsArray features bytes ty
  array_spelled ty h = field_spelled ty.0 h

  form_spelled : (form : CompositeInnerType) → IsWrittenForm features form → (bytes : List ℕ) × SpellsForm features bytes form
  form_spelled (Func ty) h = let inner = func_spelled ty h in (0x60 ∷ inner.0, (inner.0, refl, inner.1))
  form_spelled (Struct ty) h = let inner = struct_spelled ty h in (0x5f ∷ inner.0, (gc, (inner.0, refl, inner.1)))
  form_spelled (Array ty) h = let inner = array_spelled ty h in (0x5e ∷ inner.0, (gc, (inner.0, refl, inner.1)))
  form_spelled (Cont ty) h = absurd h

  either_spelled : (shared : Bool) (form : CompositeInnerType) → MayBeShared features shared → IsWrittenForm features form → (bytes : List ℕ) × SpellsEither features shared bytes form
  either_spelled false form may h = form_spelled form h
  either_spelled true form may h = let inner = form_spelled form h in (0x65 ∷ inner.0, (may refl, (inner.0, refl, inner.1)))

  pub composite_spelled : (ty : CompositeType) → IsWrittenComposite features ty → (bytes : List ℕ) × SpellsComposite features bytes ty
  composite_spelled ty h = either_spelled ty.shared ty.inner h.0 h.1

pub storage_is_read : ReadsWritten storage_at IsWrittenStorage
storage_is_read features ty gc h = spelled_read (storage_at features) (SpellsStorage features) (storage_taken features) ty (storage_spelled features gc ty h)

pub field_is_read : ReadsWritten field_at IsWrittenField
field_is_read features field gc h = spelled_read (field_at features) (SpellsField features) (field_taken features) field (field_spelled features gc field h)

pub func_is_read : ReadsWritten func_at IsWrittenFunc
func_is_read features ty gc h = spelled_read (func_at features) (SpellsFunc features) (func_taken features) ty (func_spelled features gc ty h)

pub struct_is_read : ReadsWritten struct_at IsWrittenStruct
struct_is_read features ty gc h = spelled_read (struct_at features) (SpellsStruct features) (struct_taken features) ty (struct_spelled features gc ty h)

pub array_is_read : ReadsWritten array_at IsWrittenArray
array_is_read features ty gc h = spelled_read (array_at features) (SpellsArray features) (array_taken features) ty (array_spelled features gc ty h)

pub composite_is_read : ReadsWritten composite_at IsWrittenComposite
composite_is_read features ty gc h = spelled_read (composite_at features) (SpellsComposite features) (composite_taken features) ty (composite_spelled features gc ty h)
