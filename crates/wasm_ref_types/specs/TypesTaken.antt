-- Lemmas: a type is read from the bytes that spell it, and from no others.
use Rattle.std.specs.Prelude.{ℕ, ◌<◌, ◌≤◌, ◌^◌, ◌≡◌, ◌==◌, ◌||◌, ◌⊎◌, nat_lt, Bool, true, false, ℤ, pos, negsuc, ◌-ℤ◌, List, [], ◌∷◌, ◌++◌, length, Option, Some, None, All, Ok, Err, if◌then◌else◌, refl}
use Rattle.std.specs.Option.{is_some}
use Rattle.std.proofs.Common.{ap, sym, ◌∙◌, subst, arith, inl, inr}
use Rattle.std.proofs.lemmas.Int.{ints}
use Rattle.std.proofs.lemmas.List.Elements.{All-tail}
use Rattle.std.proofs.lemmas.Bool.{cases_lt, cases_Bool, eqb-true, ltb-true, lt-ltb, le-ltb, ne_eqb}
use Rattle.wasm_reader.specs.wasm_features.declared.WasmFeatures.{WasmFeatures}
use Rattle.wasm_reader.specs.wasm_features.Features.{has, GcTypes, SharedEverythingThreads}
use Rattle.wasm_reader.specs.declared.error.ErrorKind.TheVariants as faults
use Rattle.wasm_reader.specs.Numbers.{signed, Spells, s33_at}
use Rattle.wasm_reader.specs.Reading.{Reading, ◌>>=◌}
use Rattle.wasm_reader.specs.Laws.{TakesSpelled}
use Rattle.std.proofs.lemmas.List.{append-nil}
use Rattle.wasm_reader.specs.Shortest.{s33_bytes}
use Rattle.wasm_reader.specs.Spelled.{spells_signed, number_at-spelled, number_at-found}
use Rattle.wasm_ref_types.specs.declared.heap.AbstractHeapType.{AbstractHeapType}
use Rattle.wasm_ref_types.specs.declared.heap.AbstractHeapType.TheVariants as kinds
use Rattle.wasm_ref_types.specs.declared.heap.HeapType.{HeapType}
use Rattle.wasm_ref_types.specs.declared.heap.HeapType.TheVariants.{Abstract, Concrete, Exact}
use Rattle.wasm_ref_types.specs.declared.index.UnpackedIndex.TheVariants.{Module, RecGroup, Id}
use Rattle.wasm_ref_types.specs.declared.value.ValType.{ValType}
use Rattle.wasm_ref_types.specs.declared.value.ValType.TheVariants.{I32, I64, F32, F64, V128, Ref}
use Rattle.wasm_ref_types.specs.ReadTypes.{abstract_byte, is_basic, abstract_as, abstract_at, shared_at, index_as, index_at, heap_at, long_at, reference_at, plain_at, value_at}
use Rattle.wasm_ref_types.specs.Reference.{Reference, reference}
use Rattle.wasm_ref_types.specs.TypeSpellings.{HasGcTypes, HasSharedTypes, SpellsAbstract, SpellsShared, SpellsHeap, SpellsReference, SpellsValue, long_byte, IsAbstract, IsWrittenAbstract, IsWritten, IsWrittenValue, ReadsWritten}

-- ---- abstract heap types

pub abstract_again : (features : WasmFeatures) (bytes more : List ℕ) (ty : AbstractHeapType) → SpellsAbstract features bytes ty → abstract_at features (bytes ++ more) ≡ Ok (ty, more)
unfolding abstract_at
abstract_again features bytes more kinds.Func h = rw h refl
abstract_again features bytes more kinds.Extern h = rw h refl
abstract_again features bytes more kinds.Any h = rw (h.0, h.1) refl
abstract_again features bytes more kinds.None h = rw (h.0, h.1) refl
abstract_again features bytes more kinds.NoExtern h = rw (h.0, h.1) refl
abstract_again features bytes more kinds.NoFunc h = rw (h.0, h.1) refl
abstract_again features bytes more kinds.Eq h = rw (h.0, h.1) refl
abstract_again features bytes more kinds.Struct h = rw (h.0, h.1) refl
abstract_again features bytes more kinds.Array h = rw (h.0, h.1) refl
abstract_again features bytes more kinds.I31 h = rw (h.0, h.1) refl
abstract_again features bytes more kinds.Exn h = rw h refl
abstract_again features bytes more kinds.NoExn h = rw (h.0, h.1) refl
abstract_again features bytes more kinds.Cont h = absurd h
abstract_again features bytes more kinds.NoCont h = absurd h

-- a byte that is taken for an abstract type
record IsByteOf (b : ℕ) (ty : AbstractHeapType) : Type 0 where
  taken : abstract_byte b ≡ Some ty
  least : 0x69 ≤ b
  most : b ≤ 0x74

abstract_shape : (features : WasmFeatures) (bytes : List ℕ) (ty : AbstractHeapType) → SpellsAbstract features bytes ty → (b : ℕ) × (bytes ≡ b ∷ []) × IsByteOf b ty
abstract_shape features bytes kinds.Func h = (0x70, h, record { taken = refl; least = omega arith; most = omega arith })
abstract_shape features bytes kinds.Extern h = (0x6f, h, record { taken = refl; least = omega arith; most = omega arith })
abstract_shape features bytes kinds.Any h = (0x6e, h.0, record { taken = refl; least = omega arith; most = omega arith })
abstract_shape features bytes kinds.None h = (0x71, h.0, record { taken = refl; least = omega arith; most = omega arith })
abstract_shape features bytes kinds.NoExtern h = (0x72, h.0, record { taken = refl; least = omega arith; most = omega arith })
abstract_shape features bytes kinds.NoFunc h = (0x73, h.0, record { taken = refl; least = omega arith; most = omega arith })
abstract_shape features bytes kinds.Eq h = (0x6d, h.0, record { taken = refl; least = omega arith; most = omega arith })
abstract_shape features bytes kinds.Struct h = (0x6b, h.0, record { taken = refl; least = omega arith; most = omega arith })
abstract_shape features bytes kinds.Array h = (0x6a, h.0, record { taken = refl; least = omega arith; most = omega arith })
abstract_shape features bytes kinds.I31 h = (0x6c, h.0, record { taken = refl; least = omega arith; most = omega arith })
abstract_shape features bytes kinds.Exn h = (0x69, h, record { taken = refl; least = omega arith; most = omega arith })
abstract_shape features bytes kinds.NoExn h = (0x74, h.0, record { taken = refl; least = omega arith; most = omega arith })
abstract_shape features bytes kinds.Cont h = absurd h
abstract_shape features bytes kinds.NoCont h = absurd h

chosen : (b byte : ℕ) (t ty : AbstractHeapType) (other : Option AbstractHeapType) (P : ℕ → AbstractHeapType → Type 0)
    → (if b == byte then Some ty else other) ≡ Some t → P byte ty → (other ≡ Some t → P b t) → P b t
chosen b byte t ty other P e p later = elim (cases_Bool (b == byte)) [
  | inl same ↦
      let taken : Some ty ≡ Some t = (rw same at e) in
      let is : ty ≡ t = cc in
      rw (eqb-true b byte same, ← is) p
  | inr apart ↦ later (rw apart at e)
]

abbrev Spelled : ℕ → AbstractHeapType → Type 0
Spelled b t = (f : WasmFeatures) → (is_basic t || has f GcTypes) ≡ true → SpellsAbstract f (b ∷ []) t

byte_was : (b : ℕ) (t : AbstractHeapType) → abstract_byte b ≡ Some t → Spelled b t
byte_was b t e =
    let P : ℕ → AbstractHeapType → Type 0 = Spelled in
    (chosen b 0x70 t kinds.Func _ P e (λ f h. refl) (λ e.
    (chosen b 0x6f t kinds.Extern _ P e (λ f h. refl) (λ e.
    (chosen b 0x6e t kinds.Any _ P e (λ f h. (refl, h)) (λ e.
    (chosen b 0x71 t kinds.None _ P e (λ f h. (refl, h)) (λ e.
    (chosen b 0x72 t kinds.NoExtern _ P e (λ f h. (refl, h)) (λ e.
    (chosen b 0x73 t kinds.NoFunc _ P e (λ f h. (refl, h)) (λ e.
    (chosen b 0x6d t kinds.Eq _ P e (λ f h. (refl, h)) (λ e.
    (chosen b 0x6b t kinds.Struct _ P e (λ f h. (refl, h)) (λ e.
    (chosen b 0x6a t kinds.Array _ P e (λ f h. (refl, h)) (λ e.
    (chosen b 0x6c t kinds.I31 _ P e (λ f h. (refl, h)) (λ e.
    (chosen b 0x69 t kinds.Exn _ P e (λ f h. refl) (λ e.
    (chosen b 0x74 t kinds.NoExn _ P e (λ f h. (refl, h)) (λ e.
    absurd cc))))))))))))))))))))))))

byte_range : (b : ℕ) (t : AbstractHeapType) → abstract_byte b ≡ Some t → (0x69 ≤ b) × (b ≤ 0x74)
byte_range b t e =
    let P : ℕ → AbstractHeapType → Type 0 = λ c ty. (0x69 ≤ c) × (c ≤ 0x74) in
    (chosen b 0x70 t kinds.Func _ P e (omega arith, omega arith) (λ e.
    (chosen b 0x6f t kinds.Extern _ P e (omega arith, omega arith) (λ e.
    (chosen b 0x6e t kinds.Any _ P e (omega arith, omega arith) (λ e.
    (chosen b 0x71 t kinds.None _ P e (omega arith, omega arith) (λ e.
    (chosen b 0x72 t kinds.NoExtern _ P e (omega arith, omega arith) (λ e.
    (chosen b 0x73 t kinds.NoFunc _ P e (omega arith, omega arith) (λ e.
    (chosen b 0x6d t kinds.Eq _ P e (omega arith, omega arith) (λ e.
    (chosen b 0x6b t kinds.Struct _ P e (omega arith, omega arith) (λ e.
    (chosen b 0x6a t kinds.Array _ P e (omega arith, omega arith) (λ e.
    (chosen b 0x6c t kinds.I31 _ P e (omega arith, omega arith) (λ e.
    (chosen b 0x69 t kinds.Exn _ P e (omega arith, omega arith) (λ e.
    (chosen b 0x74 t kinds.NoExn _ P e (omega arith, omega arith) (λ e.
    absurd cc))))))))))))))))))))))))

none_outside : (b : ℕ) → (b < 0x69) ⊎ (0x74 < b) → abstract_byte b ≡ None
none_outside b h = at (abstract_byte b) refl
  where
    at : (o : Option AbstractHeapType) → abstract_byte b ≡ o → o ≡ None
    at None e = refl
    at (Some t) e = let range = byte_range b t e in absurd (elim h [ inl low ↦ omega arith | inr high ↦ omega arith ])

ok_is : {A : Type 0} (x y : A × List ℕ) → (let done : A × List ℕ → Reading A = λ v. Ok v in done x ≡ done y) → x ≡ y
ok_is x y e = cc

-- a value made of the one that was read
abbrev made : {A B : Type 0} → (A → B) → A × List ℕ → Reading B
made make x = Ok (make x.0, x.1)

map_was : {A B : Type 0} (r : Reading A) (make : A → B) (y : B) (later : List ℕ) → (r >>= made make) ≡ Ok (y, later) → (x : A) × (r ≡ Ok (x, later)) × (make x ≡ y)
map_was {A} {B} (Ok x) make y later e =
    let same = ok_is (make x.0, x.1) (y, later) e in
    let back : x.1 ≡ later = ap (λ p. p.1) same in
    (x.0, ap (λ (l : List ℕ). Ok (x.0, l)) back, ap (λ p. p.0) same)
map_was (Err f) make y later e = absurd cc

as_was : (features : WasmFeatures) (b left : ℕ) (o : Option AbstractHeapType) (bytes later : List ℕ) (t : AbstractHeapType)
    → abstract_byte b ≡ o → abstract_as features o left bytes ≡ Ok (t, later) → SpellsAbstract features (b ∷ []) t × (bytes ≡ later)
as_was features b left None bytes later t is e = absurd cc
as_was features b left (Some ty) bytes later t is e = elim (cases_Bool (is_basic ty || has features GcTypes)) [
  | inl on ↦
      let same = ok_is (ty, bytes) (t, later) (rw on at e) in
      let named : ty ≡ t = ap (λ p. p.0) same in
      (subst (SpellsAbstract features (b ∷ [])) named (byte_was b ty is features on), ap (λ p. p.1) same)
  | inr off ↦ let none = (rw off at e) in absurd cc
]

-- a front of the bytes spells the value, and these are left
abbrev Fronts : {A : Type 0} → (List ℕ → A → Type 0) → List ℕ → List ℕ → A → Type 0
Fronts spells bytes later value = (front : List ℕ) × spells front value × (bytes ≡ front ++ later)

abstract_found : (features : WasmFeatures) (bytes later : List ℕ) (t : AbstractHeapType) → abstract_at features bytes ≡ Ok (t, later) → Fronts (SpellsAbstract features) bytes later t
unfolding abstract_at
abstract_found features [] later t e = absurd cc
abstract_found features (b ∷ bytes) later t e =
    let was = as_was features b (length (b ∷ bytes)) (abstract_byte b) bytes later t refl e in
    (b ∷ [], was.0, ap (λ (l : List ℕ). b ∷ l) was.1)

pub abstract_taken : (features : WasmFeatures) → TakesSpelled (abstract_at features) (SpellsAbstract features)
abstract_taken features = record {
  again = λ bytes more ty h. abstract_again features bytes more ty h;
  found = λ bytes later ty small e. abstract_found features bytes later ty e;
}

-- ---- heap types

shared_again : (features : WasmFeatures) (inner more : List ℕ) (ty : AbstractHeapType) → HasSharedTypes features → SpellsAbstract features inner ty
    → shared_at features (0x65 ∷ (inner ++ more)) ≡ Ok (Abstract true ty, more)
unfolding shared_at
shared_again features inner more ty on h = rw (on, abstract_again features inner more ty h) refl

shared_found : (features : WasmFeatures) (bytes later : List ℕ) (value : HeapType) → shared_at features (0x65 ∷ bytes) ≡ Ok (value, later)
    → (ty : AbstractHeapType) × (value ≡ Abstract true ty) × Fronts (λ front t. SpellsShared features front t) (0x65 ∷ bytes) later ty
unfolding shared_at
shared_found features bytes later value e = elim (cases_Bool (has features SharedEverythingThreads)) [
  | inl on ↦
      let was = map_was (abstract_at features bytes) (λ ty. Abstract true ty) value later (rw on at e) in
      let inner = abstract_found features bytes later was.0 was.1 in
      (was.0, sym was.2, (0x65 ∷ inner.0, (on, (inner.0, refl, inner.1)), ap (λ (l : List ℕ). 0x65 ∷ l) inner.2))
  | inr off ↦ let none = (rw off at e) in absurd cc
]

index_again : (bytes more : List ℕ) (n : ℕ) → n < 2 ^ 20 → Spells signed 33 bytes (pos n) → index_at (bytes ++ more) ≡ Ok (Concrete (Module n), more)
unfolding index_at
index_again bytes more n small h = rw (number_at-spelled signed faults.TooLong 33 bytes more (pos n) h, lt-ltb n 1048576 small) refl

index_was : (z : ℤ) (left : ℕ) (bytes later : List ℕ) (value : HeapType) → index_as z left bytes ≡ Ok (value, later)
    → (n : ℕ) × (z ≡ pos n) × (n < 2 ^ 20) × (value ≡ Concrete (Module n)) × (bytes ≡ later)
index_was (pos n) left bytes later value e = elim (cases_Bool (nat_lt n 1048576)) [
  | inl small ↦
      let same = ok_is (Concrete (Module n), bytes) (value, later) (rw small at e) in
      (n, refl, ltb-true n 1048576 small, sym (ap (λ p. p.0) same), ap (λ p. p.1) same)
  | inr large ↦ let none = (rw large at e) in absurd cc
]
index_was (negsuc n) left bytes later value e = absurd cc

then_was : {A B : Type 0} (r : Reading A) (f : A × List ℕ → Reading B) (y : B × List ℕ) → (r >>= f) ≡ Ok y → (x : A × List ℕ) × (r ≡ Ok x) × (f x ≡ Ok y)
then_was (Ok x) f y e = (x, refl, e)
then_was (Err g) f y e = absurd cc

index_found : (features : WasmFeatures) (bytes later : List ℕ) (value : HeapType) → All (λ b. b < 256) bytes → index_at bytes ≡ Ok (value, later) → Fronts (SpellsHeap features) bytes later value
unfolding index_at
index_found features bytes later value small e =
    let was = then_was (s33_at bytes) (λ n. index_as n.0 (length bytes) n.1) (value, later) e in
    let number = number_at-found signed faults.TooLong 33 bytes was.0.1 was.0.0 small was.1 in
    let index = index_was was.0.0 (length bytes) was.0.1 later value was.2 in (
      number.0,
      subst (SpellsHeap features number.0) (sym index.3) (index.2, subst (Spells signed 33 number.0) index.1 number.1),
      number.2 ∙ ap (λ (l : List ℕ). number.0 ++ l) index.4,
    )

-- the first byte of a number that is not negative
low_or_on : (b : ℕ) (z : ℤ) (n : ℕ) → b < 128 → z ≡ signed.value b → z ≡ pos n → b < 64
low_or_on b z n last e is = elim (cases_lt b 64) [
  | inl low ↦ low
  | inr high ↦
      let value : pos n ≡ pos b -ℤ pos 128 = sym is ∙ (rw (le-ltb b 64 high) at e) in
      absurd (omega (arith, ints))
]

index_first : (bytes : List ℕ) (n : ℕ) → Spells signed 33 bytes (pos n) → (b : ℕ) × (later : List ℕ) × (bytes ≡ b ∷ later) × ((b < 0x69) ⊎ (0x74 < b)) × ((b ≡ 0x65) → ⊥)
index_first [] n h = absurd h
index_first (b ∷ bytes) n (inl h) = let low = low_or_on b (pos n) n h.0 h.3 refl in (b, bytes, refl, inl (omega arith), λ is. omega arith)
index_first (b ∷ bytes) n (inr h) = let high = h.0 in (b, bytes, refl, inr (omega arith), λ is. omega arith)

heap_by_byte : (features : WasmFeatures) (b : ℕ) (more : List ℕ) (ty : AbstractHeapType) → abstract_byte b ≡ Some ty → abstract_at features (b ∷ more) ≡ Ok (ty, more)
    → heap_at features (b ∷ more) ≡ Ok (Abstract false ty, more)
unfolding heap_at
heap_by_byte features b more ty taken e = rw (taken, e) refl

heap_by_index : (features : WasmFeatures) (b : ℕ) (bytes : List ℕ) → abstract_byte b ≡ None → (b == 0x65) ≡ false → heap_at features (b ∷ bytes) ≡ index_at (b ∷ bytes)
unfolding heap_at
heap_by_index features b bytes none apart = rw (none, apart) refl

heap_by_shared : (features : WasmFeatures) (bytes : List ℕ) → heap_at features (0x65 ∷ bytes) ≡ shared_at features (0x65 ∷ bytes)
unfolding heap_at
heap_by_shared features bytes = refl

pub heap_again : (features : WasmFeatures) (bytes more : List ℕ) (ty : HeapType) → SpellsHeap features bytes ty → heap_at features (bytes ++ more) ≡ Ok (ty, more)
heap_again features bytes more (Abstract false ty) h =
    let shape = abstract_shape features bytes ty h in
    rw shape.1 (heap_by_byte features shape.0 more ty shape.2.taken (rw shape.1 at (abstract_again features bytes more ty h)))
heap_again features bytes more (Abstract true ty) h = rw h.1.1 (heap_by_shared features (h.1.0 ++ more) ∙ shared_again features h.1.0 more ty h.0 h.1.2)
heap_again features bytes more (Concrete (Module n)) h =
    let first = index_first bytes n h.1 in
    rw first.2 (heap_by_index features first.0 (first.1 ++ more) (none_outside first.0 first.3) (ne_eqb first.0 0x65 first.4)
    ∙ (rw first.2 at (index_again bytes more n h.0 h.1)))
heap_again features bytes more (Concrete (RecGroup n)) h = absurd h
heap_again features bytes more (Concrete (Id n)) h = absurd h
heap_again features bytes more (Exact n) h = absurd h

heap_found : (features : WasmFeatures) (bytes later : List ℕ) (value : HeapType) → All (λ b. b < 256) bytes → heap_at features bytes ≡ Ok (value, later) → Fronts (SpellsHeap features) bytes later value
unfolding heap_at
heap_found features [] later value small e = absurd cc
heap_found features (b ∷ bytes) later value small e = elim (cases_Bool (is_some (abstract_byte b))) [
  | inl is ↦
      let was = map_was (abstract_at features (b ∷ bytes)) (λ ty. Abstract false ty) value later (rw is at e) in
      subst (Fronts (SpellsHeap features) (b ∷ bytes) later) was.2 (abstract_found features (b ∷ bytes) later was.0 was.1)
  | inr none ↦ elim (cases_Bool (b == 0x65)) [
    | inl shared ↦
        let byte = eqb-true b 0x65 shared in
        let was = shared_found features bytes later value (rw byte at (rw (none, shared) at e)) in
        rw byte (subst (Fronts (SpellsHeap features) (0x65 ∷ bytes) later) (sym was.1) was.2)
    | inr apart ↦ index_found features (b ∷ bytes) later value small (rw (none, apart) at e)
  ]
]

pub heap_taken : (features : WasmFeatures) → TakesSpelled (heap_at features) (SpellsHeap features)
heap_taken features = record {
  again = λ bytes more ty h. heap_again features bytes more ty h;
  found = λ bytes later ty small e. heap_found features bytes later ty small e;
}

-- ---- reference types

long_again : (features : WasmFeatures) (nullable : Bool) (byte : ℕ) (inner more : List ℕ) (ty : HeapType) → HasGcTypes features → SpellsHeap features inner ty
    → long_at features nullable (byte ∷ (inner ++ more)) ≡ Ok (reference nullable ty, more)
unfolding long_at
long_again features nullable byte inner more ty on h = rw (on, heap_again features inner more ty h) refl

long_found : (features : WasmFeatures) (nullable : Bool) (byte : ℕ) (bytes later : List ℕ) (value : Reference) → byte ≡ long_byte nullable → All (λ b. b < 256) (byte ∷ bytes)
    → long_at features nullable (byte ∷ bytes) ≡ Ok (value, later) → Fronts (SpellsReference features) (byte ∷ bytes) later value
unfolding long_at
long_found features nullable byte bytes later value is small e = elim (cases_Bool (has features GcTypes)) [
  | inl on ↦
      let was = map_was (heap_at features bytes) (λ ty. reference nullable ty) value later (rw on at e) in
      let inner = heap_found features bytes later was.0 (All-tail (λ b. b < 256) byte bytes small) was.1 in
      subst (Fronts (SpellsReference features) (byte ∷ bytes) later) was.2
      (byte ∷ inner.0, inl (on, (inner.0, ap (λ (b : ℕ). b ∷ inner.0) is, inner.1)), ap (λ (l : List ℕ). byte ∷ l) inner.2)
  | inr off ↦ let none = (rw off at e) in absurd cc
]

by_long : (features : WasmFeatures) (nullable : Bool) (bytes : List ℕ) → reference_at features (long_byte nullable ∷ bytes) ≡ long_at features nullable (long_byte nullable ∷ bytes)
unfolding reference_at
by_long features true bytes = refl
by_long features false bytes = refl

by_shared : (features : WasmFeatures) (bytes more : List ℕ) (ty : AbstractHeapType) → shared_at features (0x65 ∷ bytes) ≡ Ok (Abstract true ty, more)
    → reference_at features (0x65 ∷ bytes) ≡ Ok (reference true (Abstract true ty), more)
unfolding reference_at
by_shared features bytes more ty e = rw e refl

by_byte : (features : WasmFeatures) (b : ℕ) (more : List ℕ) (ty : AbstractHeapType) → 0x69 ≤ b → abstract_at features (b ∷ more) ≡ Ok (ty, more)
    → reference_at features (b ∷ more) ≡ Ok (reference true (Abstract false ty), more)
unfolding reference_at
by_byte features b more ty least e =
    rw (ne_eqb b 0x63 (λ is. omega arith), ne_eqb b 0x64 (λ is. omega arith), ne_eqb b 0x65 (λ is. omega arith), e) refl

short_again : (features : WasmFeatures) (bytes more : List ℕ) (ty : HeapType) → IsAbstract ty → SpellsHeap features bytes ty → reference_at features (bytes ++ more) ≡ Ok (reference true ty, more)
short_again features bytes more (Abstract false ty) is h =
    let shape = abstract_shape features bytes ty h in
    rw shape.1 (by_byte features shape.0 more ty shape.2.least (rw shape.1 at (abstract_again features bytes more ty h)))
short_again features bytes more (Abstract true ty) is h = rw h.1.1 (by_shared features (h.1.0 ++ more) more ty (shared_again features h.1.0 more ty h.0 h.1.2))
short_again features bytes more (Concrete index) is h = absurd is
short_again features bytes more (Exact index) is h = absurd is

pub reference_again : (features : WasmFeatures) (bytes more : List ℕ) (r : Reference) → SpellsReference features bytes r → reference_at features (bytes ++ more) ≡ Ok (r, more)
reference_again features bytes more r (inl h) =
    rw h.1.1 (by_long features r.nullable (h.1.0 ++ more) ∙ long_again features r.nullable (long_byte r.nullable) h.1.0 more r.heap_type h.0 h.1.2)
reference_again features bytes more r (inr h) =
    short_again features bytes more r.heap_type h.1 h.2 ∙ ap (λ (n : Bool). Ok (reference n r.heap_type, more)) (sym h.0)

short_found : (features : WasmFeatures) (b : ℕ) (bytes later : List ℕ) (value : Reference) → b ≡ 0x65 → (shared_at features (b ∷ bytes) >>= made (λ ty. reference true ty)) ≡ Ok (value, later)
    → Fronts (SpellsReference features) (b ∷ bytes) later value
short_found features b bytes later value is e =
    let was = map_was (shared_at features (b ∷ bytes)) (λ ty. reference true ty) value later e in
    let inner = shared_found features bytes later was.0 (ap (λ (c : ℕ). shared_at features (c ∷ bytes)) (sym is) ∙ was.1) in
    subst (λ (c : ℕ). Fronts (SpellsReference features) (c ∷ bytes) later value) (sym is)
    (subst (Fronts (SpellsReference features) (0x65 ∷ bytes) later) (ap (λ (ty : HeapType). reference true ty) (sym inner.1) ∙ was.2)
    (inner.2.0, inr (refl, tt, inner.2.1), inner.2.2))

reference_found : (features : WasmFeatures) (bytes later : List ℕ) (value : Reference) → All (λ b. b < 256) bytes → reference_at features bytes ≡ Ok (value, later) → Fronts (SpellsReference features) bytes later value
unfolding reference_at
reference_found features [] later value small e = absurd cc
reference_found features (b ∷ bytes) later value small e = elim (cases_Bool (b == 0x63)) [
  | inl is ↦ long_found features true b bytes later value (eqb-true b 0x63 is) small (rw is at e)
  | inr not63 ↦ let e = (rw not63 at e) in elim (cases_Bool (b == 0x64)) [
    | inl is ↦ long_found features false b bytes later value (eqb-true b 0x64 is) small (rw is at e)
    | inr not64 ↦ let e = (rw not64 at e) in elim (cases_Bool (b == 0x65)) [
      | inl is ↦ short_found features b bytes later value (eqb-true b 0x65 is) (rw is at e)
      | inr not65 ↦
          let was = map_was (abstract_at features (b ∷ bytes)) (λ ty. reference true (Abstract false ty)) value later (rw not65 at e) in
          let inner = abstract_found features (b ∷ bytes) later was.0 was.1 in
          subst (Fronts (SpellsReference features) (b ∷ bytes) later) was.2 (inner.0, inr (refl, tt, inner.1), inner.2)
    ]
  ]
]

pub reference_taken : (features : WasmFeatures) → TakesSpelled (reference_at features) (SpellsReference features)
reference_taken features = record {
  again = λ bytes more ty h. reference_again features bytes more ty h;
  found = λ bytes later ty small e. reference_found features bytes later ty small e;
}

-- ---- value types

heap_first : (features : WasmFeatures) (bytes : List ℕ) (ty : HeapType) → IsAbstract ty → SpellsHeap features bytes ty → (b : ℕ) × (later : List ℕ) × (bytes ≡ b ∷ later) × (b ≤ 0x74)
heap_first features bytes (Abstract false ty) is h = let shape = abstract_shape features bytes ty h in (shape.0, [], shape.1, shape.2.most)
heap_first features bytes (Abstract true ty) is h = (0x65, h.1.0, h.1.1, omega arith)
heap_first features bytes (Concrete index) is h = absurd is
heap_first features bytes (Exact index) is h = absurd is

long_byte-most : (nullable : Bool) → long_byte nullable ≤ 0x74
long_byte-most true = omega arith
long_byte-most false = omega arith

reference_first : (features : WasmFeatures) (bytes : List ℕ) (r : Reference) → SpellsReference features bytes r → (b : ℕ) × (later : List ℕ) × (bytes ≡ b ∷ later) × (b ≤ 0x74)
reference_first features bytes r (inl h) = (long_byte r.nullable, h.1.0, h.1.1, long_byte-most r.nullable)
reference_first features bytes r (inr h) = heap_first features bytes r.heap_type h.1 h.2

by_reference : (features : WasmFeatures) (b : ℕ) (bytes more : List ℕ) (r : Reference) → b ≤ 0x74 → reference_at features (b ∷ bytes) ≡ Ok (r, more) → value_at features (b ∷ bytes) ≡ Ok (Ref r, more)
unfolding value_at
by_reference features b bytes more r most e =
    rw (
      ne_eqb b 0x7f (λ is. omega arith),
      ne_eqb b 0x7e (λ is. omega arith),
      ne_eqb b 0x7d (λ is. omega arith),
      ne_eqb b 0x7c (λ is. omega arith),
      ne_eqb b 0x7b (λ is. omega arith),
      e,
    ) refl

pub value_again : (features : WasmFeatures) (bytes more : List ℕ) (ty : ValType) → SpellsValue features bytes ty → value_at features (bytes ++ more) ≡ Ok (ty, more)
unfolding value_at plain_at
value_again features bytes more I32 h = rw h refl
value_again features bytes more I64 h = rw h refl
value_again features bytes more F32 h = rw h refl
value_again features bytes more F64 h = rw h refl
value_again features bytes more V128 h = rw h refl
value_again features bytes more (Ref r) h =
    let first = reference_first features bytes r h in
    rw first.2 (by_reference features first.0 (first.1 ++ more) more r first.3 (rw first.2 at (reference_again features bytes more r h)))

plain_found : (features : WasmFeatures) (b byte : ℕ) (bytes later : List ℕ) (value ty : ValType) → b ≡ byte → SpellsValue features (byte ∷ []) ty → plain_at ty (b ∷ bytes) ≡ Ok (value, later)
    → Fronts (SpellsValue features) (b ∷ bytes) later value
unfolding plain_at
plain_found features b byte bytes later value ty is h e =
    let same = ok_is (ty, bytes) (value, later) e in
    let named : ty ≡ value = ap (λ p. p.0) same in
    (b ∷ [], subst (SpellsValue features (b ∷ [])) named (rw is h), ap (λ p. b ∷ p.1) same)

plain_or : (features : WasmFeatures) (b byte : ℕ) (bytes later : List ℕ) (value ty : ValType) (other : Reading ValType) → SpellsValue features (byte ∷ []) ty
    → (if b == byte then plain_at ty (b ∷ bytes) else other) ≡ Ok (value, later)
    → (other ≡ Ok (value, later) → Fronts (SpellsValue features) (b ∷ bytes) later value) → Fronts (SpellsValue features) (b ∷ bytes) later value
plain_or features b byte bytes later value ty other h e next = elim (cases_Bool (b == byte)) [
  | inl is ↦ plain_found features b byte bytes later value ty (eqb-true b byte is) h (rw is at e)
  | inr apart ↦ next (rw apart at e)
]

by_reference_found : (features : WasmFeatures) (b : ℕ) (bytes later : List ℕ) (value : ValType) → All (λ b. b < 256) (b ∷ bytes)
    → (reference_at features (b ∷ bytes) >>= made (λ r. Ref r)) ≡ Ok (value, later) → Fronts (SpellsValue features) (b ∷ bytes) later value
by_reference_found features b bytes later value small e =
    let was = map_was (reference_at features (b ∷ bytes)) (λ r. Ref r) value later e in
    subst (Fronts (SpellsValue features) (b ∷ bytes) later) was.2 (reference_found features (b ∷ bytes) later was.0 small was.1)

value_found : (features : WasmFeatures) (bytes later : List ℕ) (value : ValType) → All (λ b. b < 256) bytes → value_at features bytes ≡ Ok (value, later) → Fronts (SpellsValue features) bytes later value
unfolding value_at
value_found features [] later value small e = absurd cc
value_found features (b ∷ bytes) later value small e =
    (plain_or features b 0x7f bytes later value I32 _ refl e (λ e.
    (plain_or features b 0x7e bytes later value I64 _ refl e (λ e.
    (plain_or features b 0x7d bytes later value F32 _ refl e (λ e.
    (plain_or features b 0x7c bytes later value F64 _ refl e (λ e.
    (plain_or features b 0x7b bytes later value V128 _ refl e (λ e.
    by_reference_found features b bytes later value small e))))))))))

pub value_taken : (features : WasmFeatures) → TakesSpelled (value_at features) (SpellsValue features)
value_taken features = record {
  again = λ bytes more ty h. value_again features bytes more ty h;
  found = λ bytes later ty small e. value_found features bytes later ty small e;
}

-- ---- what has a spelling

abstract_spelled : (features : WasmFeatures) (ty : AbstractHeapType) → HasGcTypes features → IsWrittenAbstract ty → (bytes : List ℕ) × SpellsAbstract features bytes ty
abstract_spelled features kinds.Func gc h = (0x70 ∷ [], refl)
abstract_spelled features kinds.Extern gc h = (0x6f ∷ [], refl)
abstract_spelled features kinds.Any gc h = (0x6e ∷ [], (refl, gc))
abstract_spelled features kinds.None gc h = (0x71 ∷ [], (refl, gc))
abstract_spelled features kinds.NoExtern gc h = (0x72 ∷ [], (refl, gc))
abstract_spelled features kinds.NoFunc gc h = (0x73 ∷ [], (refl, gc))
abstract_spelled features kinds.Eq gc h = (0x6d ∷ [], (refl, gc))
abstract_spelled features kinds.Struct gc h = (0x6b ∷ [], (refl, gc))
abstract_spelled features kinds.Array gc h = (0x6a ∷ [], (refl, gc))
abstract_spelled features kinds.I31 gc h = (0x6c ∷ [], (refl, gc))
abstract_spelled features kinds.Exn gc h = (0x69 ∷ [], refl)
abstract_spelled features kinds.NoExn gc h = (0x74 ∷ [], (refl, gc))
abstract_spelled features kinds.Cont gc h = absurd h
abstract_spelled features kinds.NoCont gc h = absurd h

heap_spelled : (features : WasmFeatures) (ty : HeapType) → HasGcTypes features → IsWritten features ty → (bytes : List ℕ) × SpellsHeap features bytes ty
heap_spelled features (Abstract false ty) gc h = abstract_spelled features ty gc h.1
heap_spelled features (Abstract true ty) gc h =
    let inner = abstract_spelled features ty gc h.1 in
    (0x65 ∷ inner.0, (h.0 refl, (inner.0, refl, inner.1)))
heap_spelled features (Concrete (Module n)) gc h = (s33_bytes (pos n), (h, spells_signed 5 33 (pos n) (omega arith) (omega arith) (omega (arith, h))))
heap_spelled features (Concrete (RecGroup n)) gc h = absurd h
heap_spelled features (Concrete (Id n)) gc h = absurd h
heap_spelled features (Exact index) gc h = absurd h

pub reference_spelled : (features : WasmFeatures) (r : Reference) → HasGcTypes features → IsWritten features r.heap_type → (bytes : List ℕ) × SpellsReference features bytes r
reference_spelled features r gc h =
    let inner = heap_spelled features r.heap_type gc h in
    (long_byte r.nullable ∷ inner.0, inl (gc, (inner.0, refl, inner.1)))

pub value_spelled : (features : WasmFeatures) (ty : ValType) → HasGcTypes features → IsWrittenValue features ty → (bytes : List ℕ) × SpellsValue features bytes ty
value_spelled features I32 gc h = (0x7f ∷ [], refl)
value_spelled features I64 gc h = (0x7e ∷ [], refl)
value_spelled features F32 gc h = (0x7d ∷ [], refl)
value_spelled features F64 gc h = (0x7c ∷ [], refl)
value_spelled features V128 gc h = (0x7b ∷ [], refl)
value_spelled features (Ref r) gc h = reference_spelled features r gc h

-- what has a spelling is read from it
pub spelled_read : {A : Type 0} (reading : List ℕ → Reading A) (spells : List ℕ → A → Type 0) → TakesSpelled reading spells → (value : A) → (bytes : List ℕ) × spells bytes value → (bytes : List ℕ) × (reading bytes ≡ Ok (value, []))
spelled_read reading spells taken value found = (found.0, ap reading (sym (append-nil found.0)) ∙ taken.again found.0 [] value found.1)

pub abstract_is_read : ReadsWritten abstract_at (λ _ ty. IsWrittenAbstract ty)
abstract_is_read features ty gc h = spelled_read (abstract_at features) (SpellsAbstract features) (abstract_taken features) ty (abstract_spelled features ty gc h)

pub heap_is_read : ReadsWritten heap_at IsWritten
heap_is_read features ty gc h = spelled_read (heap_at features) (SpellsHeap features) (heap_taken features) ty (heap_spelled features ty gc h)

pub reference_is_read : ReadsWritten reference_at (λ features r. IsWritten features r.heap_type)
reference_is_read features r gc h = spelled_read (reference_at features) (SpellsReference features) (reference_taken features) r (reference_spelled features r gc h)

pub value_is_read : ReadsWritten value_at IsWrittenValue
value_is_read features ty gc h = spelled_read (value_at features) (SpellsValue features) (value_taken features) ty (value_spelled features ty gc h)
