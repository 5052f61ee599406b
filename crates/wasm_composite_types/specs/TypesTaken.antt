-- Lemmas: a type is read from the bytes that spell it, and from no others.
use Rattle.std.specs.Prelude.{ℕ, ◌≤◌, ◌≡◌, ◌==◌, Bool, true, false, List, [], ◌∷◌, ◌++◌, Ok, if◌then◌else◌, refl}
use Rattle.std.proofs.Common.{ap, sym, ◌∙◌, subst, arith, inl, inr}
use Rattle.std.proofs.lemmas.Bool.{cases_lt, cases_Bool, eqb-true, eqb-false, ne_eqb}
use Rattle.wasm_ref_types.specs.wasm_features.declared.WasmFeatures.{WasmFeatures}
use Rattle.wasm_ref_types.specs.wasm_features.Features.{GcTypes, SharedEverythingThreads, enables}
use Rattle.wasm_ref_types.specs.wasm_reader.Reading.{◌>>=◌, byte_at, next_at}
use Rattle.wasm_ref_types.specs.wasm_reader.Items.{SpellsVec, vec_at}
use Rattle.wasm_ref_types.specs.wasm_reader.Laws.{TakesSpelled}
use Rattle.wasm_ref_types.specs.wasm_reader.Spellings.{ok_is, then_was}
use Rattle.wasm_ref_types.specs.wasm_reader.Vecs.{vec_taken}
use Rattle.wasm_ref_types.specs.declared.value.ValType.{ValType}
use Rattle.wasm_ref_types.specs.ReadTypes.{abstract_at, reference_at, value_at}
use Rattle.wasm_ref_types.specs.TypeSpellings.{SpellsBehind, SpellsValue}
use Rattle.wasm_ref_types.specs.TypesTaken.{value_taken}
use Rattle.wasm_ref_types.specs.TypesFinal.{value_begins}
use Rattle.wasm_composite_types.specs.declared.field.StorageType.{StorageType}
use Rattle.wasm_composite_types.specs.declared.field.StorageType.TheVariants.{I8, I16, Val}
use Rattle.wasm_composite_types.specs.declared.form.FuncType.{FuncType}
use Rattle.wasm_composite_types.specs.declared.form.StructType.{StructType}
use Rattle.wasm_composite_types.specs.declared.form.ArrayType.{ArrayType}
use Rattle.wasm_composite_types.specs.declared.form.CompositeInnerType.{CompositeInnerType}
use Rattle.wasm_composite_types.specs.declared.form.CompositeInnerType.TheVariants.{Func, Array, Struct, Cont}
use Rattle.wasm_composite_types.specs.declared.form.CompositeType.{CompositeType}
use Rattle.wasm_composite_types.specs.Readings.{storage_at, mutable_at, field_at, func_at, array_at, struct_at, form_after, form_at, composite_after, composite_at}
use Rattle.wasm_composite_types.specs.Spellings.{SpellsStorage, SpellsMutable, SpellsField, SpellsFunc, SpellsArray, SpellsStruct, SpellsForm, SpellsEither, SpellsComposite}
use Rattle.wasm_composite_types.specs.Taken.{Small, Fronts, none_taken, test_taken, gated_taken, mapped, made_taken, both_taken, begun_taken}

-- ---- fields

-- no value type begins with the byte of a packed type
not_packed : (features : WasmFeatures) (b : ℕ) (bytes later : List ℕ) (ty : ValType) → value_at features (b ∷ bytes) ≡ Ok (ty, later) → (b ≡ 0x78 → ⊥) × (b ≡ 0x77 → ⊥)
unfolding value_at reference_at abstract_at
not_packed features b bytes later ty e = (λ is. let e = (rw is at e) in cc, λ is. let e = (rw is at e) in cc)

storage_again : (features : WasmFeatures) (bytes more : List ℕ) (ty : StorageType) → SpellsStorage features bytes ty → storage_at features (bytes ++ more) ≡ Ok (ty, more)
unfolding storage_at
storage_again features bytes more I8 h = rw h refl
storage_again features bytes more I16 h = rw h refl
storage_again features bytes more (Val ty) h = at (bytes ++ more) ((value_taken features).again bytes more ty h)
  where
    at : (all : List ℕ) → value_at features all ≡ Ok (ty, more) → (next_at all >>= λ b. if b.0 == 0x78 then (byte_at b.1 >>= λ x. Ok (I8, x.1)) else (if b.0 == 0x77 then (byte_at b.1 >>= λ x. Ok (I16, x.1)) else mapped Val (value_at features b.1)))
        ≡ Ok (Val ty, more)
    at [] e = let none = sym e ∙ (value_begins features).none in cc
    at (b ∷ all) e =
        let apart = not_packed features b all more ty e in
        rw (ne_eqb b 0x78 apart.0, ne_eqb b 0x77 apart.1, e) refl

storage_found : (features : WasmFeatures) (bytes later : List ℕ) (ty : StorageType) → Small bytes → storage_at features bytes ≡ Ok (ty, later) → Fronts (SpellsStorage features) bytes later ty
unfolding storage_at
storage_found features [] later ty small e = absurd cc
storage_found features (b ∷ bytes) later ty small e = elim (cases_Bool (b == 0x78)) [
  | inl is ↦
      let same = ok_is (I8, bytes) (ty, later) (rw is at e) in
      let byte = eqb-true b 0x78 is in
      (b ∷ [], subst (SpellsStorage features (b ∷ [])) (ap (λ p. p.0) same) (ap (λ (n : ℕ). n ∷ []) byte), ap (λ p. b ∷ p.1) same)
  | inr apart ↦ let e = (rw apart at e) in elim (cases_Bool (b == 0x77)) [
    | inl is ↦
        let same = ok_is (I16, bytes) (ty, later) (rw is at e) in
        let byte = eqb-true b 0x77 is in
        (b ∷ [], subst (SpellsStorage features (b ∷ [])) (ap (λ p. p.0) same) (ap (λ (n : ℕ). n ∷ []) byte), ap (λ p. b ∷ p.1) same)
    | inr other ↦
        let was = then_was (value_at features (b ∷ bytes)) (λ x. Ok (Val x.0, x.1)) (ty, later) (rw other at e) in
        let same = ok_is (Val was.0.0, was.0.1) (ty, later) was.2 in
        let found = (value_taken features).found (b ∷ bytes) was.0.1 was.0.0 small was.1 in
        (found.0, subst (SpellsStorage features found.0) (ap (λ p. p.0) same) found.1, found.2 ∙ ap (λ p. found.0 ++ p.1) same)
  ]
]

pub storage_taken : (features : WasmFeatures) → TakesSpelled (storage_at features) (SpellsStorage features)
storage_taken features = record { again = storage_again features; found = storage_found features }

mutable_again : (bytes more : List ℕ) (mutable : Bool) → SpellsMutable bytes mutable → mutable_at (bytes ++ more) ≡ Ok (mutable, more)
unfolding mutable_at
mutable_again bytes more false h = rw h refl
mutable_again bytes more true h = rw h refl

mutable_found : (bytes later : List ℕ) (mutable : Bool) → Small bytes → mutable_at bytes ≡ Ok (mutable, later) → Fronts SpellsMutable bytes later mutable
unfolding mutable_at
mutable_found [] later mutable small e = absurd cc
mutable_found (b ∷ bytes) later mutable small e = elim (cases_Bool (b == 0)) [
  | inl is ↦
      let same = ok_is (false, bytes) (mutable, later) (rw is at e) in
      (b ∷ [], subst (SpellsMutable (b ∷ [])) (ap (λ p. p.0) same) (ap (λ (n : ℕ). n ∷ []) (eqb-true b 0 is)), ap (λ p. b ∷ p.1) same)
  | inr apart ↦ let e = (rw apart at e) in elim (cases_Bool (b == 1)) [
    | inl is ↦
        let same = ok_is (true, bytes) (mutable, later) (rw is at e) in
        (b ∷ [], subst (SpellsMutable (b ∷ [])) (ap (λ p. p.0) same) (ap (λ (n : ℕ). n ∷ []) (eqb-true b 1 is)), ap (λ p. b ∷ p.1) same)
    | inr other ↦ let e = (rw other at e) in absurd cc
  ]
]

mutable_taken : TakesSpelled mutable_at SpellsMutable
mutable_taken = record { again = mutable_again; found = mutable_found }

pub field_taken : (features : WasmFeatures) → TakesSpelled (field_at features) (SpellsField features)
unfolding field_at
field_taken features = both_taken (storage_at features) (SpellsStorage features) (storage_taken features) mutable_at SpellsMutable mutable_taken
    (λ element_type mutable. record { element_type = element_type; mutable = mutable }) (SpellsField features)
    (λ bytes field h. (field.element_type, field.mutable, refl, h)) (λ bytes element_type mutable h. h)

-- ---- forms

values_taken : (features : WasmFeatures) → TakesSpelled (vec_at 1000 (value_at features)) (SpellsVec 1000 (SpellsValue features))
values_taken features = vec_taken (value_at features) (SpellsValue features) (value_taken features) 1000

pub func_taken : (features : WasmFeatures) → TakesSpelled (func_at features) (SpellsFunc features)
unfolding func_at
func_taken features = both_taken (vec_at 1000 (value_at features)) (SpellsVec 1000 (SpellsValue features)) (values_taken features)
    (vec_at 1000 (value_at features)) (SpellsVec 1000 (SpellsValue features)) (values_taken features)
    (λ params results. record { params = params; results = results }) (SpellsFunc features)
    (λ bytes ty h. (ty.params, ty.results, refl, h)) (λ bytes params results h. h)

pub array_taken : (features : WasmFeatures) → TakesSpelled (array_at features) (SpellsArray features)
unfolding array_at
array_taken features = made_taken (field_at features) (SpellsField features) (field_taken features) (λ field. record { 0 = field }) (SpellsArray features)
    (λ bytes ty h. (ty.0, refl, h)) (λ bytes field h. h)

pub struct_taken : (features : WasmFeatures) → TakesSpelled (struct_at features) (SpellsStruct features)
unfolding struct_at
struct_taken features = made_taken (vec_at 10000 (field_at features)) (SpellsVec 10000 (SpellsField features)) (vec_taken (field_at features) (SpellsField features) (field_taken features) 10000)
    (λ fields. record { fields = fields }) (SpellsStruct features)
    (λ bytes ty h. (ty.fields, refl, h)) (λ bytes fields h. h)

-- bytes that begin with a byte and spell behind it
tails : {b c : ℕ} (bytes inner : List ℕ) → b ∷ bytes ≡ c ∷ inner → (b ≡ c) × (bytes ≡ inner)
tails {b} {c} bytes inner e = (ap (λ (l : List ℕ). head l) e, ap (λ (l : List ℕ). rest_of l) e)
  where
    head : List ℕ → ℕ
    head [] = 0
    head (x ∷ xs) = x

    rest_of : List ℕ → List ℕ
    rest_of [] = []
    rest_of (x ∷ xs) = xs

pub behind_is : (P : List ℕ → Type 0) (byte b : ℕ) (bytes : List ℕ) → SpellsBehind byte P (b ∷ bytes) → (b ≡ byte) × P bytes
behind_is P byte b bytes h = let same = tails bytes h.0 h.1 in (same.0, subst P (sym same.1) h.2)

pub behind : (P : List ℕ → Type 0) (byte b : ℕ) (bytes : List ℕ) → b ≡ byte → P bytes → SpellsBehind byte P (b ∷ bytes)
behind P byte b bytes is h = (bytes, ap (λ (n : ℕ). n ∷ bytes) is, h)

module _ (features : WasmFeatures) where
  form_range : (b : ℕ) (bytes : List ℕ) (form : CompositeInnerType) → SpellsForm features (b ∷ bytes) form → (0x5e ≤ b) × (b ≤ 0x60)
  form_range b bytes (Func ty) h = let is = (behind_is _ 0x60 b bytes h).0 in (omega arith, omega arith)
  form_range b bytes (Struct ty) h = let is = (behind_is _ 0x5f b bytes h.1).0 in (omega arith, omega arith)
  form_range b bytes (Array ty) h = let is = (behind_is _ 0x5e b bytes h.1).0 in (omega arith, omega arith)
  form_range b bytes (Cont ty) h = absurd h

  into_func : (b : ℕ) (bytes : List ℕ) (form : CompositeInnerType) → b ≡ 0x60 → SpellsForm features (b ∷ bytes) form → (ty : FuncType) × (Func ty ≡ form) × SpellsFunc features bytes ty
  into_func b bytes (Func ty) is h = (ty, refl, (behind_is _ 0x60 b bytes h).1)
  into_func b bytes (Struct ty) is h = let other = (behind_is _ 0x5f b bytes h.1).0 in absurd (omega arith)
  into_func b bytes (Array ty) is h = let other = (behind_is _ 0x5e b bytes h.1).0 in absurd (omega arith)
  into_func b bytes (Cont ty) is h = absurd h

  into_struct : (b : ℕ) (bytes : List ℕ) (form : CompositeInnerType) → b ≡ 0x5f → SpellsForm features (b ∷ bytes) form → (ty : StructType) × (Struct ty ≡ form) × SpellsStruct features bytes ty
  into_struct b bytes (Func ty) is h = let other = (behind_is _ 0x60 b bytes h).0 in absurd (omega arith)
  into_struct b bytes (Struct ty) is h = (ty, refl, (behind_is _ 0x5f b bytes h.1).1)
  into_struct b bytes (Array ty) is h = let other = (behind_is _ 0x5e b bytes h.1).0 in absurd (omega arith)
  into_struct b bytes (Cont ty) is h = absurd h

  into_array : (b : ℕ) (bytes : List ℕ) (form : CompositeInnerType) → b ≡ 0x5e → SpellsForm features (b ∷ bytes) form → (ty : ArrayType) × (Array ty ≡ form) × SpellsArray features bytes ty
  into_array b bytes (Func ty) is h = let other = (behind_is _ 0x60 b bytes h).0 in absurd (omega arith)
  into_array b bytes (Struct ty) is h = let other = (behind_is _ 0x5f b bytes h.1).0 in absurd (omega arith)
  into_array b bytes (Array ty) is h = (ty, refl, (behind_is _ 0x5e b bytes h.1).1)
  into_array b bytes (Cont ty) is h = absurd h

  asks_gc : (b : ℕ) (bytes : List ℕ) (form : CompositeInnerType) → (b ≡ 0x60 → ⊥) → SpellsForm features (b ∷ bytes) form → enables features GcTypes ≡ true
  asks_gc b bytes (Func ty) not h = absurd (not (behind_is _ 0x60 b bytes h).0)
  asks_gc b bytes (Struct ty) not h = h.0
  asks_gc b bytes (Array ty) not h = h.0
  asks_gc b bytes (Cont ty) not h = absurd h

  -- what follows this byte of a form
  abbrev FormBehind : ℕ → List ℕ → CompositeInnerType → Type 0
  FormBehind b bytes form = SpellsForm features (b ∷ bytes) form

  form_after_taken : (b start : ℕ) → TakesSpelled (form_after features b start) (FormBehind b)
  unfolding form_after
  form_after_taken b start =
      test_taken (b == 0x60) _ _ (FormBehind b)
      (λ is. let byte = eqb-true b 0x60 is in
      made_taken (func_at features) (SpellsFunc features) (func_taken features) Func (FormBehind b) (λ bytes form h. into_func b bytes form byte h) (λ bytes ty h. behind _ 0x60 b bytes byte h))
      (λ not. let apart = eqb-false b 0x60 not in test_taken (b == 0x5f) _ _ (FormBehind b)
      (λ is. let byte = eqb-true b 0x5f is in gated_taken features GcTypes start _ (FormBehind b)
      (λ on. made_taken (struct_at features) (SpellsStruct features) (struct_taken features) Struct (FormBehind b) (λ bytes form h. into_struct b bytes form byte h) (λ bytes ty h. (on, behind _ 0x5f b bytes byte h)))
      (λ bytes form h. asks_gc b bytes form apart h))
      (λ not2. test_taken (b == 0x5e) _ _ (FormBehind b)
      (λ is. let byte = eqb-true b 0x5e is in gated_taken features GcTypes start _ (FormBehind b)
      (λ on. made_taken (array_at features) (SpellsArray features) (array_taken features) Array (FormBehind b) (λ bytes form h. into_array b bytes form byte h) (λ bytes ty h. (on, behind _ 0x5e b bytes byte h)))
      (λ bytes form h. asks_gc b bytes form apart h))
      (λ not3. none_taken _ (FormBehind b) (λ bytes form h.
      let range = form_range b bytes form h in
      let apart2 = eqb-false b 0x5f not2 in
      let apart3 = eqb-false b 0x5e not3 in
      elim (cases_lt b 0x5f) [ inl low ↦ apart3 (omega arith) | inr high ↦ elim (cases_lt b 0x60) [ inl low ↦ apart2 (omega arith) | inr top ↦ apart (omega arith) ] ]))))

  form_none : (form : CompositeInnerType) → SpellsForm features [] form → ⊥
  form_none (Func ty) h = no_front h.0 h.1
    where
      no_front : (inner : List ℕ) → [] ≡ 0x60 ∷ inner → ⊥
      no_front inner e = cc
  form_none (Struct ty) h = let e = h.1.1 in cc
  form_none (Array ty) h = let e = h.1.1 in cc
  form_none (Cont ty) h = absurd h

  pub form_taken : TakesSpelled (form_at features) (SpellsForm features)
  unfolding form_at
  form_taken = begun_taken (form_after features) (SpellsForm features) form_none form_after_taken

  -- ---- composite types

  pub composite_range : (b : ℕ) (bytes : List ℕ) (shared : Bool) (form : CompositeInnerType) → SpellsEither features shared (b ∷ bytes) form → (0x5e ≤ b) × (b ≤ 0x65)
  composite_range b bytes false form h = let range = form_range b bytes form h in (omega (arith, range.0), omega (arith, range.1))
  composite_range b bytes true form h = let is = (behind_is _ 0x65 b bytes h.1).0 in (omega arith, omega arith)

  into_shared : (b : ℕ) (bytes : List ℕ) (shared : Bool) (form : CompositeInnerType) → b ≡ 0x65 → SpellsEither features shared (b ∷ bytes) form → (shared ≡ true) × (enables features SharedEverythingThreads ≡ true) × SpellsForm features bytes form
  into_shared b bytes false form is h = let range = form_range b bytes form h in absurd (omega (arith, range.1))
  into_shared b bytes true form is h = (refl, h.0, (behind_is _ 0x65 b bytes h.1).1)

  into_plain : (b : ℕ) (bytes : List ℕ) (shared : Bool) (form : CompositeInnerType) → (b ≡ 0x65 → ⊥) → SpellsEither features shared (b ∷ bytes) form → (shared ≡ false) × SpellsForm features (b ∷ bytes) form
  into_plain b bytes false form not h = (refl, h)
  into_plain b bytes true form not h = absurd (not (behind_is _ 0x65 b bytes h.1).0)

  abbrev pub CompositeBehind : ℕ → List ℕ → CompositeType → Type 0
  CompositeBehind b bytes ty = SpellsComposite features (b ∷ bytes) ty

  abbrev composite : Bool → CompositeInnerType → CompositeType
  composite shared inner = record { inner = inner; shared = shared }

  pub composite_after_taken : (b start : ℕ) → TakesSpelled (composite_after features b start) (CompositeBehind b)
  unfolding composite_after
  composite_after_taken b start =
      test_taken (b == 0x65) _ _ (CompositeBehind b)
      (λ is. let byte = eqb-true b 0x65 is in gated_taken features SharedEverythingThreads start _ (CompositeBehind b)
      (λ on. made_taken (form_at features) (SpellsForm features) form_taken (composite true) (CompositeBehind b)
      (λ bytes ty h. let was = into_shared b bytes ty.shared ty.inner byte h in (ty.inner, ap (λ (shared : Bool). composite shared ty.inner) (sym was.0), was.2))
      (λ bytes form h. (on, behind _ 0x65 b bytes byte h)))
      (λ bytes ty h. (into_shared b bytes ty.shared ty.inner byte h).1))
      (λ not. let apart = eqb-false b 0x65 not in
      made_taken (form_after features b start) (FormBehind b) (form_after_taken b start) (composite false) (CompositeBehind b)
      (λ bytes ty h. let was = into_plain b bytes ty.shared ty.inner apart h in (ty.inner, ap (λ (shared : Bool). composite shared ty.inner) (sym was.0), was.1))
      (λ bytes form h. h))

  pub composite_none : (shared : Bool) (form : CompositeInnerType) → SpellsEither features shared [] form → ⊥
  composite_none false form h = form_none form h
  composite_none true form h = let e = h.1.1 in cc

  pub composite_taken : TakesSpelled (composite_at features) (SpellsComposite features)
  unfolding composite_at
  composite_taken = begun_taken (composite_after features) (SpellsComposite features) (λ ty h. composite_none ty.shared ty.inner h) composite_after_taken
