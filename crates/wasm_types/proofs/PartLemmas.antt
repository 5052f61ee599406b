-- Lemmas: what is spelled has no more parts than bytes.
use Rattle.std.specs.Prelude.{ℕ, suc, ◌+◌, ◌<◌, ◌≤◌, ◌≡◌, Bool, true, false, List, [], ◌∷◌, length, Option, Some, None}
use Rattle.std.specs.Option.{option_len}
use Rattle.std.proofs.Common.{arith, inl, inr, length-append}
use Rattle.wasm_features.specs.declared.WasmFeatures.{WasmFeatures}
use Rattle.wasm_reader.specs.Items.{SpellsItems, SpellsVec}
use Rattle.wasm_composite_types.specs.wasm_ref_types.declared.index.UnpackedIndex.{UnpackedIndex}
use Rattle.wasm_composite_types.specs.wasm_ref_types.declared.index.UnpackedIndex.TheVariants.{Module, RecGroup, Id}
use Rattle.wasm_composite_types.specs.wasm_ref_types.declared.value.ValType.{ValType}
use Rattle.wasm_composite_types.specs.wasm_ref_types.ReadTypes.{value_at}
use Rattle.wasm_composite_types.specs.wasm_ref_types.TypeSpellings.{SpellsValue}
use Rattle.wasm_composite_types.specs.wasm_ref_types.TypesTaken.{value_taken}
use Rattle.wasm_composite_types.specs.declared.field.FieldType.{FieldType}
use Rattle.wasm_composite_types.specs.declared.form.CompositeInnerType.{CompositeInnerType}
use Rattle.wasm_composite_types.specs.declared.form.CompositeInnerType.TheVariants.{Func, Array, Struct, Cont}
use Rattle.wasm_composite_types.specs.Readings.{storage_at, field_at}
use Rattle.wasm_composite_types.specs.Spellings.{SpellsField, SpellsForm, SpellsEither}
use Rattle.wasm_composite_types.specs.TypesTaken.{field_taken}
use Rattle.wasm_types.specs.declared.subtype.SubType.{SubType}
use Rattle.wasm_types.specs.Readings.{Listed}
use Rattle.wasm_types.specs.Spellings.{SpellsIndex, SpellsSupertype, SpellsSub, SpellsGroup}
use Rattle.wasm_types.specs.TypesTaken.{group_taken}
use Rattle.wasm_types.specs.Parts.{form_parts, sub_parts, group_parts, PartsTakeBytes}

-- behind a byte
longer : (byte k : ℕ) (inner bytes : List ℕ) → bytes ≡ byte ∷ inner → k ≤ length inner → suc k ≤ length bytes
longer byte k inner bytes e h = rw e (omega (arith, h))

-- ---- lists of items, each of which takes a byte

module _ {A : Type 0} (spells : List ℕ → A → Type 0) where
  items_long : ((bytes : List ℕ) (x : A) → spells bytes x → 0 < length bytes) → (items : List A) (bytes : List ℕ) → SpellsItems spells bytes items → length items ≤ length bytes
  items_long some [] bytes h = omega arith
  items_long some (x ∷ items) bytes h =
      let first = some h.0 x h.3 in
      let rest = items_long some items h.1 h.4 in
      rw (h.2, length-append h.0 h.1) (omega (arith, first, rest))

  vec_long : ((bytes : List ℕ) (x : A) → spells bytes x → 0 < length bytes) → (limit : ℕ) (items : List A) (bytes : List ℕ) → SpellsVec limit spells bytes items → length items ≤ length bytes
  vec_long some limit items bytes h =
      let all = items_long some items h.listed h.lists in
      rw (h.joined, length-append h.count h.listed) (omega (arith, all))

-- ---- types

value_some : (features : WasmFeatures) (bytes : List ℕ) (ty : ValType) → SpellsValue features bytes ty → 0 < length bytes
unfolding value_at
value_some features [] ty h = let wrong = (value_taken features).again [] [] ty h in cc
value_some features (b ∷ bytes) ty h = omega arith

field_some : (features : WasmFeatures) (bytes : List ℕ) (field : FieldType) → SpellsField features bytes field → 0 < length bytes
unfolding field_at storage_at
field_some features [] field h = let wrong = (field_taken features).again [] [] field h in cc
field_some features (b ∷ bytes) field h = omega arith

index_some : (bytes : List ℕ) (index : UnpackedIndex) → SpellsIndex bytes index → 0 < length bytes
index_some [] (Module n) h = absurd h.1
index_some (b ∷ bytes) (Module n) h = omega arith
index_some bytes (RecGroup n) h = absurd h
index_some bytes (Id n) h = absurd h

form_long : (features : WasmFeatures) (form : CompositeInnerType) (bytes : List ℕ) → SpellsForm features bytes form → suc (form_parts form) ≤ length bytes
form_long features (Func ty) bytes h =
    let both = h.2 in
    let params = vec_long (SpellsValue features) (value_some features) 1000 ty.params both.0 both.3 in
    let results = vec_long (SpellsValue features) (value_some features) 1000 ty.results both.1 both.4 in
    longer 0x60 _ h.0 bytes h.1 (rw (both.2, length-append both.0 both.1) (omega (arith, params, results)))
form_long features (Struct ty) bytes h = let it = h.1 in longer 0x5f _ it.0 bytes it.1 (vec_long (SpellsField features) (field_some features) 10000 ty.fields it.0 it.2)
form_long features (Array ty) bytes h = let it = h.1 in longer 0x5e _ it.0 bytes it.1 (field_some features it.0 ty.0 it.2)
form_long features (Cont ty) bytes h = absurd h

either_long : (features : WasmFeatures) (shared : Bool) (form : CompositeInnerType) (bytes : List ℕ) → SpellsEither features shared bytes form → suc (form_parts form) ≤ length bytes
either_long features false form bytes h = form_long features form bytes h
either_long features true form bytes h =
    let it = h.1 in
    let inner = form_long features form it.0 it.2 in
    let all = longer 0x65 _ it.0 bytes it.1 inner in omega (arith, all)

supertype_long : (supertype : Option UnpackedIndex) (bytes : List ℕ) → SpellsSupertype bytes supertype → option_len supertype ≤ length bytes
supertype_long None bytes h = omega arith
supertype_long (Some index) bytes h = vec_long SpellsIndex index_some 1 (index ∷ []) bytes h

sub_long : (features : WasmFeatures) (bytes : List ℕ) (ty : SubType) → SpellsSub features bytes ty → sub_parts ty ≤ length bytes
sub_long features bytes ty (inl h) =
    let it = h.1 in
    let both = it.2 in
    let supertype = supertype_long ty.supertype_idx both.0 both.3 in
    let composite = either_long features ty.composite_type.shared ty.composite_type.inner both.1 both.4 in
    let inner : option_len ty.supertype_idx + suc (form_parts ty.composite_type.inner) ≤ length it.0 = rw (both.2, length-append both.0 both.1) (omega (arith, supertype, composite)) in
    let all = longer _ _ it.0 bytes it.1 inner in
    omega (arith, all)
sub_long features bytes ty (inr h) =
    let composite = either_long features ty.composite_type.shared ty.composite_type.inner bytes h.2 in
    rw h.1 (omega (arith, composite))

subs_long : (features : WasmFeatures) (types : List SubType) (bytes : List ℕ) → SpellsItems (SpellsSub features) bytes types → group_parts types ≤ length bytes
subs_long features [] bytes h = omega arith
subs_long features (ty ∷ types) bytes h =
    let first = sub_long features h.0 ty h.3 in
    let rest = subs_long features types h.1 h.4 in
    rw (h.2, length-append h.0 h.1) (omega (arith, first, rest))

group_long : (features : WasmFeatures) (bytes : List ℕ) (group : Listed) → SpellsGroup features bytes group → group_parts group.types ≤ length bytes
group_long features bytes group (inl h) =
    let it = h.2 in
    let vec = it.2 in
    let all = subs_long features group.types vec.listed vec.lists in
    let inner : group_parts group.types ≤ length it.0 = rw (vec.joined, length-append vec.count vec.listed) (omega (arith, all)) in
    let whole = longer 0x4e _ it.0 bytes it.1 inner in
    omega (arith, whole)
group_long features bytes group (inr h) =
    let it = h.1 in
    let alone = sub_long features bytes it.0 it.2 in
    rw it.1 (omega (arith, alone))

pub parts_take_bytes : (features : WasmFeatures) → PartsTakeBytes features
parts_take_bytes features bytes later group small e =
    let found = (group_taken features).found bytes later group small e in
    let long = group_long features found.0 group found.1 in
    rw (found.2, length-append found.0 later) (omega (arith, long))
