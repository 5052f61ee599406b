-- The shortest spellings of field types, composite types and subtypes.
use Rattle.std.specs.Prelude.{ℕ, ◌≤◌, Bool, true, false, List, [], ◌∷◌, ◌++◌, length, Option, Some, None, if◌then◌else◌, refl}
use Rattle.std.specs.Option.{option_to_list}
use Rattle.std.proofs.Common.{arith, inl, inr}
use Rattle.wasm_features.specs.declared.WasmFeatures.{WasmFeatures}
use Rattle.wasm_reader.specs.Items.{SpellsVec}
use Rattle.wasm_ref_types.specs.declared.index.UnpackedIndex.{UnpackedIndex}
use Rattle.wasm_ref_types.specs.declared.index.UnpackedIndex.TheVariants.{Module, RecGroup, Id}
use Rattle.wasm_ref_types.specs.TypeSpellings.{SpellsValue, SpellsBehind}
use Rattle.wasm_composite_types.specs.declared.field.StorageType.{StorageType}
use Rattle.wasm_composite_types.specs.declared.field.StorageType.TheVariants.{I8, I16, Val}
use Rattle.wasm_composite_types.specs.declared.field.FieldType.{FieldType}
use Rattle.wasm_composite_types.specs.declared.form.CompositeInnerType.{CompositeInnerType}
use Rattle.wasm_composite_types.specs.declared.form.CompositeInnerType.TheVariants.{Func, Array, Struct, Cont}
use Rattle.wasm_composite_types.specs.declared.form.CompositeType.{CompositeType}
use Rattle.wasm_composite_types.specs.Spellings.{SpellsBoth, SpellsStorage, SpellsMutable, SpellsField, SpellsForm, SpellsEither, SpellsComposite}
use Rattle.wasm_types.specs.declared.subtype.SubType.{SubType}
use Rattle.wasm_types.specs.Readings.{sub_at}
use Rattle.wasm_types.specs.Spellings.{SpellsIndex, SpellsSupertype, declared_byte, SpellsSub}
use Rattle.wasm_types.specs.TypesTaken.{sub_taken}
use Rattle.wasm_types.specs.Finals.{sub_final}
use Rattle.wasm_operators.specs.Bytes.{unsigned_bytes, vec_bytes, value_bytes}
use Rattle.wasm_operators.specs.Laws.{WritesShortest}
use Rattle.wasm_operators.specs.Numbers.{same_short, u32_short}
use Rattle.wasm_operators.specs.Types.{value_short}
use Rattle.wasm_operators.specs.Vecs.{parts_small, parts_short, vec_short}
use Rattle.wasm_format_bytes.specs.Writers.{Writer, leaf_writer}
use Rattle.wasm_sections.specs.TypeSection.{sub}

abbrev pub storage_bytes : StorageType → List ℕ
storage_bytes I8 = 0x78 ∷ []
storage_bytes I16 = 0x77 ∷ []
storage_bytes (Val ty) = value_bytes ty

abbrev pub mutable_bytes : Bool → List ℕ
mutable_bytes mutable = if mutable then 0x01 ∷ [] else 0x00 ∷ []

abbrev pub field_bytes : FieldType → List ℕ
field_bytes field = storage_bytes field.element_type ++ mutable_bytes field.mutable

abbrev pub form_bytes : CompositeInnerType → List ℕ
form_bytes (Func ty) = 0x60 ∷ (vec_bytes value_bytes ty.params ++ vec_bytes value_bytes ty.results)
form_bytes (Struct ty) = 0x5f ∷ vec_bytes field_bytes ty.fields
form_bytes (Array ty) = 0x5e ∷ field_bytes ty.0
form_bytes (Cont ty) = []

abbrev pub composite_bytes : CompositeType → List ℕ
composite_bytes ty = if ty.shared then 0x65 ∷ form_bytes ty.inner else form_bytes ty.inner

abbrev pub index_bytes : UnpackedIndex → List ℕ
index_bytes (Module index) = unsigned_bytes index
index_bytes (RecGroup index) = []
index_bytes (Id id) = []

-- with its supertypes
abbrev pub declared_bytes : SubType → List ℕ
declared_bytes ty = declared_byte ty.is_final ∷ (vec_bytes index_bytes (option_to_list ty.supertype_idx) ++ composite_bytes ty.composite_type)

-- a final type without supertype is written as a composite type alone
abbrev pub sub_bytes : SubType → List ℕ
sub_bytes ty = bytes_of ty.is_final ty.supertype_idx
  where
    bytes_of : Bool → Option UnpackedIndex → List ℕ
    bytes_of true None = composite_bytes ty.composite_type
    bytes_of true (Some index) = declared_bytes ty
    bytes_of false supertype = declared_bytes ty

-- ---- each is the shortest

-- a byte and what is behind it
led_short : {A : Type 0} (byte : ℕ) (spells : List ℕ → A → Type 0) (written : A → List ℕ) → WritesShortest spells written
    → WritesShortest (λ bytes x. SpellsBehind byte (λ inner. spells inner x) bytes) (λ x. byte ∷ written x)
led_short byte spells written short bytes x small h =
    let parts = parts_small bytes (byte ∷ []) h.0 h.1 small in
    let one = short h.0 x parts.1 h.2 in
    ((written x, refl, one.0), parts_short bytes (byte ∷ []) h.0 (byte ∷ []) (written x) h.1 (omega arith) one.1)

both_short : {A B : Type 0} (First : List ℕ → A → Type 0) (Second : List ℕ → B → Type 0) (one : A → List ℕ) (two : B → List ℕ) → WritesShortest First one → WritesShortest Second two
    → WritesShortest (λ bytes (p : A × B). SpellsBoth First Second bytes p.0 p.1) (λ p. one p.0 ++ two p.1)
both_short First Second one two p q bytes x small h =
    let parts = parts_small bytes h.0 h.1 h.2 small in
    let a = p h.0 x.0 parts.0 h.3 in
    let b = q h.1 x.1 parts.1 h.4 in
    ((one x.0, two x.1, refl, a.0, b.0), parts_short bytes h.0 h.1 (one x.0) (two x.1) h.2 a.1 b.1)

module _ (features : WasmFeatures) where
  storage_short : WritesShortest (SpellsStorage features) storage_bytes
  storage_short bytes I8 small h = same_short (SpellsStorage features) I8 bytes (0x78 ∷ []) h h
  storage_short bytes I16 small h = same_short (SpellsStorage features) I16 bytes (0x77 ∷ []) h h
  storage_short bytes (Val ty) small h = value_short features bytes ty small h

  mutable_short : WritesShortest SpellsMutable mutable_bytes
  mutable_short bytes false small h = same_short SpellsMutable false bytes (0x00 ∷ []) h h
  mutable_short bytes true small h = same_short SpellsMutable true bytes (0x01 ∷ []) h h

  pub field_short : WritesShortest (SpellsField features) field_bytes
  field_short bytes field small h =
      both_short (SpellsStorage features) SpellsMutable storage_bytes mutable_bytes storage_short mutable_short bytes (field.element_type, field.mutable) small h

  values_short : WritesShortest (SpellsVec 1000 (SpellsValue features)) (vec_bytes value_bytes)
  values_short = vec_short (SpellsValue features) value_bytes (value_short features) 1000

  fields_short : WritesShortest (SpellsVec 10000 (SpellsField features)) (vec_bytes field_bytes)
  fields_short = vec_short (SpellsField features) field_bytes field_short 10000

  pub form_short : WritesShortest (SpellsForm features) form_bytes
  form_short bytes (Func ty) small h =
      led_short 0x60 (λ inner p. SpellsBoth (SpellsVec 1000 (SpellsValue features)) (SpellsVec 1000 (SpellsValue features)) inner p.0 p.1) (λ p. vec_bytes value_bytes p.0 ++ vec_bytes value_bytes p.1)
      (both_short (SpellsVec 1000 (SpellsValue features)) (SpellsVec 1000 (SpellsValue features)) (vec_bytes value_bytes) (vec_bytes value_bytes) values_short values_short)
      bytes (ty.params, ty.results) small h
  form_short bytes (Struct ty) small h =
      let s = led_short 0x5f (SpellsVec 10000 (SpellsField features)) (vec_bytes field_bytes) fields_short bytes ty.fields small h.1 in
      ((h.0, s.0), s.1)
  form_short bytes (Array ty) small h =
      let s = led_short 0x5e (SpellsField features) field_bytes field_short bytes ty.0 small h.1 in
      ((h.0, s.0), s.1)
  form_short bytes (Cont ty) small h = absurd h

  either_short : (shared : Bool) → WritesShortest (SpellsEither features shared) (λ inner. if shared then 0x65 ∷ form_bytes inner else form_bytes inner)
  either_short false bytes inner small h = form_short bytes inner small h
  either_short true bytes inner small h =
      let s = led_short 0x65 (SpellsForm features) form_bytes form_short bytes inner small h.1 in
      ((h.0, s.0), s.1)

  pub composite_short : WritesShortest (SpellsComposite features) composite_bytes
  composite_short bytes ty small h = either_short ty.shared bytes ty.inner small h

  index_short : WritesShortest SpellsIndex index_bytes
  index_short bytes (Module index) small h = let s = u32_short bytes index small h.1 in ((h.0, s.0), s.1)
  index_short bytes (RecGroup index) small h = absurd h
  index_short bytes (Id id) small h = absurd h

  supertype_short : WritesShortest SpellsSupertype (λ o. vec_bytes index_bytes (option_to_list o))
  supertype_short bytes o small h = vec_short SpellsIndex index_bytes index_short 1 bytes (option_to_list o) small h

  abbrev SpellsDeclared : List ℕ → SubType → Type 0
  SpellsDeclared bytes ty = SpellsBehind (declared_byte ty.is_final) (λ inner. SpellsBoth SpellsSupertype (SpellsComposite features) inner ty.supertype_idx ty.composite_type) bytes

  declared_short : WritesShortest SpellsDeclared declared_bytes
  declared_short bytes ty small h =
      led_short (declared_byte ty.is_final) (λ inner p. SpellsBoth SpellsSupertype (SpellsComposite features) inner p.0 p.1) (λ p. vec_bytes index_bytes (option_to_list p.0) ++ composite_bytes p.1)
      (both_short SpellsSupertype (SpellsComposite features) (λ o. vec_bytes index_bytes (option_to_list o)) composite_bytes supertype_short composite_short)
      bytes (ty.supertype_idx, ty.composite_type) small h

  abbrev made : Bool → Option UnpackedIndex → CompositeType → SubType
  made final supertype inner = record { is_final = final; supertype_idx = supertype; composite_type = inner }

  pub sub_short : WritesShortest (SpellsSub features) sub_bytes
  sub_short bytes ty small h = go ty.is_final ty.supertype_idx ty.composite_type h
    where
      go : (final : Bool) (supertype : Option UnpackedIndex) (inner : CompositeType) → SpellsSub features bytes (made final supertype inner)
          → SpellsSub features (sub_bytes (made final supertype inner)) (made final supertype inner) × (length (sub_bytes (made final supertype inner)) ≤ length bytes)
      go true None inner (inl h) =
          let behind = h.1 in
          let rest = behind.2 in
          let parts = parts_small bytes (0x4f ∷ []) behind.0 behind.1 small in
          let last = parts_small behind.0 rest.0 rest.1 rest.2 parts.1 in
          let s = composite_short rest.1 inner last.1 rest.4 in
          (inr (refl, refl, s.0), parts_short bytes (0x4f ∷ []) behind.0 [] (composite_bytes inner) behind.1 (omega arith) (parts_short behind.0 rest.0 rest.1 [] (composite_bytes inner) rest.2 (omega arith) s.1))
      go true None inner (inr h) = let s = composite_short bytes inner small h.2 in (inr (refl, refl, s.0), s.1)
      go true (Some index) inner (inl h) = let s = declared_short bytes (made true (Some index) inner) small h.1 in (inl (h.0, s.0), s.1)
      go true (Some index) inner (inr h) = let e = h.1 in absurd cc
      go false supertype inner (inl h) = let s = declared_short bytes (made false supertype inner) small h.1 in (inl (h.0, s.0), s.1)
      go false supertype inner (inr h) = let e = h.0 in absurd cc

abbrev pub sub_writer : (features : WasmFeatures) → Writer (sub features)
sub_writer features = leaf_writer (sub_at features) (SpellsSub features) (sub_taken features) (sub_final features) sub_bytes (sub_short features)
