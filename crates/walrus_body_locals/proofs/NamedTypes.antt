-- Lemmas: value types of a file.
use Rattle.std.proofs.Common.{ℕ, ◌≡◌, ◌==◌, ◌+◌, ◌-◌, nat_lt, Bool, true, false, pos, negsuc, ℤ, List, length, Some, Result, Ok, Err, if◌then◌else◌, refl, ap, sym, subst, inl, inr, ◌∙◌, arith}
use Rattle.std.specs.Prelude.{◌⊎◌, None, slice_get, slice_index}
use Rattle.std.specs.Option.{is_some}
use Rattle.std.proofs.lemmas.Bool.{lt-ltb, le-ltb}
use Rattle.std.proofs.lemmas.Option.{slice_get_cases, get_or_from_slice_get}
use Rattle.wasm_features.specs.declared.WasmFeatures.{WasmFeatures}
use Rattle.wasm_features.specs.Features.{has, GcTypes, SharedEverythingThreads}
use Rattle.wasm_reader.specs.Reading.{Reading, ◌>>=◌, byte_at, next_at}
use Rattle.wasm_reader.specs.Numbers.{s33_at}
use Rattle.wasm_reader.specs.Cursor.{Window, Cursor, rest, end_of, Forward}
use Rattle.wasm_ref_types.specs.declared.heap.AbstractHeapType.TheVariants as from
use Rattle.wasm_ref_types.specs.declared.heap.AbstractHeapType.{AbstractHeapType}
use Rattle.wasm_ref_types.specs.declared.heap.HeapType.{HeapType as ReadHeap}
use Rattle.wasm_ref_types.specs.declared.heap.HeapType.TheVariants as heaps
use Rattle.wasm_ref_types.specs.declared.index.UnpackedIndex.TheVariants.{Module, RecGroup, Id}
use Rattle.wasm_ref_types.specs.declared.value.ValType.{ValType as Written}
use Rattle.wasm_ref_types.specs.declared.value.ValType.TheVariants as values
use Rattle.wasm_ref_types.specs.Reference.{Reference, reference}
use Rattle.wasm_ref_types.specs.ReadTypes.{abstract_byte, abstract_at, shared_at, index_as, index_at, heap_at, long_at, reference_at, plain_at, value_at}
use Rattle.walrus_forms.specs.declared.value.ValType.{ValType}
use Rattle.wasm_formats.specs.declared.fault.Form.TheVariants as unsupported
use Rattle.wasm_formats.specs.Stops.{Unsupported, stop, Stop, Parsing}
use Rattle.wasm_formats.specs.Parts.{told_as}
use Rattle.wasm_formats.specs.Joined.{tested}
use Rattle.walrus_body_nesting.specs.wasm_grammar.TypeWords.{abstract_from, abstract_of, value_of}
use Rattle.walrus_body_nesting.specs.wasm_grammar.Values.{value_type, named_below}
use Rattle.walrus_forms.specs.declared.value.AbstractHeapType.{AbstractHeapType as OwnAbstract}
use Rattle.walrus_forms.specs.declared.value.AbstractHeapType.TheVariants as words
use Rattle.walrus_forms.specs.declared.value.HeapType.TheVariants as into
use Rattle.walrus_forms.specs.declared.value.ValType.TheVariants.{I32, I64, F32, F64, V128, Ref}
use Rattle.walrus_forms.specs.Values.{value_name}
use Rattle.walrus_pairing.specs.declared.error.PairError.{PairError}
use Rattle.walrus_pairing.specs.declared.error.PairError.TheVariants as errors
use Rattle.walrus_pairing.specs.Types.{read_abstract, read_value}
use Rattle.walrus_body_nesting.specs.walrus_body_env.declared.error.BodyError.{BodyError}
use Rattle.walrus_body_nesting.specs.Faults.{fault_at}
use Rattle.walrus_body_locals.specs.Calls.{Answers, Parses}
use Rattle.walrus_body_locals.specs.Locals.{IsTypeOf, trouble_of}

-- ---- a value type that is read names no type but by its index

-- what is read, if anything, is so
abbrev Gives : {A : Type 0} → (A → Type 0) → Reading A → Type 0
Gives P (Ok x) = P x.0
Gives P (Err e) = Unit {0}

gives_next : {A B : Type 0} (P : B → Type 0) (r : Reading A) (f : A × List ℕ → Reading B) → ((x : A × List ℕ) → Gives P (f x)) → Gives P (r >>= f)
gives_next P (Ok x) f h = h x
gives_next P (Err e) f h = tt

gives_then : {A B : Type 0} (Q : A → Type 0) (P : B → Type 0) (r : Reading A) (f : A × List ℕ → Reading B) → Gives Q r → ((x : A × List ℕ) → Q x.0 → Gives P (f x)) → Gives P (r >>= f)
gives_then Q P (Ok x) f g h = h x g
gives_then Q P (Err e) f g h = tt

gives_if : {A : Type 0} (P : A → Type 0) (b : Bool) (r q : Reading A) → Gives P r → Gives P q → Gives P (if b then r else q)
gives_if P true r q g h = g
gives_if P false r q g h = h

abbrev IsHeapIn : ReadHeap → Type 0
IsHeapIn (heaps.Abstract shared ty) = Unit {0}
IsHeapIn (heaps.Concrete (Module n)) = Unit {0}
IsHeapIn (heaps.Concrete (RecGroup n)) = ⊥
IsHeapIn (heaps.Concrete (Id n)) = ⊥
IsHeapIn (heaps.Exact index) = ⊥

abbrev IsRefIn : Reference → Type 0
IsRefIn r = IsHeapIn r.heap_type

abbrev pub IsValueIn : Written → Type 0
IsValueIn (values.Ref r) = IsRefIn r
IsValueIn _ = Unit {0}

shared_in : (features : WasmFeatures) (bytes : List ℕ) → Gives IsHeapIn (shared_at features bytes)
unfolding shared_at
shared_in features bytes = gives_next IsHeapIn (byte_at bytes) _ (λ b. gives_if IsHeapIn (has features SharedEverythingThreads) _ _
    (gives_next IsHeapIn (abstract_at features b.1) _ (λ ty. tt)) tt)

index_in : (z : ℤ) (left : ℕ) (bytes : List ℕ) → Gives IsHeapIn (index_as z left bytes)
index_in (pos n) left bytes = gives_if IsHeapIn (nat_lt n 1048576) _ _ tt tt
index_in (negsuc n) left bytes = tt

heap_in : (features : WasmFeatures) (bytes : List ℕ) → Gives IsHeapIn (heap_at features bytes)
unfolding heap_at index_at
heap_in features bytes = gives_next IsHeapIn (next_at bytes) _ (λ b. gives_if IsHeapIn (is_some (abstract_byte b.0)) _ _
    (gives_next IsHeapIn (abstract_at features b.1) _ (λ ty. tt))
    (gives_if IsHeapIn (b.0 == 0x65) _ _ (shared_in features b.1) (gives_next IsHeapIn (s33_at b.1) _ (λ n. index_in n.0 (length b.1) n.1))))

long_in : (features : WasmFeatures) (nullable : Bool) (bytes : List ℕ) → Gives IsRefIn (long_at features nullable bytes)
unfolding long_at
long_in features nullable bytes = gives_next IsRefIn (byte_at bytes) _ (λ b. gives_if IsRefIn (has features GcTypes) _ _
    (gives_then IsHeapIn IsRefIn (heap_at features b.1) _ (heap_in features b.1) (λ ty h. h)) tt)

reference_in : (features : WasmFeatures) (bytes : List ℕ) → Gives IsRefIn (reference_at features bytes)
unfolding reference_at
reference_in features bytes = gives_next IsRefIn (next_at bytes) _ (λ b. gives_if IsRefIn (b.0 == 0x63) _ _ (long_in features true b.1)
    (gives_if IsRefIn (b.0 == 0x64) _ _ (long_in features false b.1)
    (gives_if IsRefIn (b.0 == 0x65) _ _ (gives_then IsHeapIn IsRefIn (shared_at features b.1) _ (shared_in features b.1) (λ ty h. h))
    (gives_next IsRefIn (abstract_at features b.1) _ (λ ty. tt)))))

plain_in : (ty : Written) (bytes : List ℕ) → IsValueIn ty → Gives IsValueIn (plain_at ty bytes)
unfolding plain_at
plain_in ty bytes h = gives_next IsValueIn (byte_at bytes) _ (λ b. h)

value_in : (features : WasmFeatures) (bytes : List ℕ) → Gives IsValueIn (value_at features bytes)
unfolding value_at
value_in features bytes = gives_next IsValueIn (next_at bytes) _ (λ b. gives_if IsValueIn (b.0 == 0x7f) _ _ (plain_in values.I32 b.1 tt)
    (gives_if IsValueIn (b.0 == 0x7e) _ _ (plain_in values.I64 b.1 tt)
    (gives_if IsValueIn (b.0 == 0x7d) _ _ (plain_in values.F32 b.1 tt)
    (gives_if IsValueIn (b.0 == 0x7c) _ _ (plain_in values.F64 b.1 tt)
    (gives_if IsValueIn (b.0 == 0x7b) _ _ (plain_in values.V128 b.1 tt)
    (gives_then IsRefIn IsValueIn (reference_at features b.1) _ (reference_in features b.1) (λ r h. h)))))))

given : {A : Type 0} (P : A → Type 0) (r : Reading A) (x : A × List ℕ) → Gives P r → r ≡ Ok x → P x.0
given P r x g e = let F : Reading _ → Type 0 = λ r. Gives P r in subst F e g

-- ---- with ids for its names

abbrev behind : {A B : Type 0} → Result A Stop → (A → Result B Stop) → Result B Stop
behind (Ok x) f = f x
behind (Err e) f = Err e

abbrev type_tested : ℕ → ℕ → ValType × List ℕ → Parsing ValType
type_tested types left x = tested (named_below types (value_name x.0)) left x

-- what parsing makes of what was read
abbrev parsed_from : ℕ → Written → List ℕ → ℕ → Parsing ValType
parsed_from types x later left = behind (told_as value_of (Unsupported unsupported.SharedType) left (x, later) (value_of x)) (type_tested types left)

-- the type with ids is the renamed one, and a refusal is that of parsing
abbrev pub Agrees : List ℕ → Written → List ℕ → ℕ → Result ValType PairError → Parsing ValType → Type 0
Agrees types x later left (Ok own) p = (ty : ValType) × (p ≡ Ok (ty, later)) × IsTypeOf types (x, own) ty
Agrees types x later left (Err e) p = p ≡ Err (stop (trouble_of e) left)

-- an abstract type is read as the type that is told; that of continuations is neither
abstract_told : (ty : AbstractHeapType) → ((kind : OwnAbstract) × (read_abstract ty ≡ Ok kind) × (abstract_of ty ≡ Some kind) × (ty ≡ abstract_from kind)) ⊎ ((read_abstract ty ≡ Err errors.ContinuationType) × (abstract_of ty ≡ None))
abstract_told from.Func = inl (words.Func, refl, refl, refl)
abstract_told from.Extern = inl (words.Extern, refl, refl, refl)
abstract_told from.Any = inl (words.Any, refl, refl, refl)
abstract_told from.None = inl (words.None, refl, refl, refl)
abstract_told from.NoExtern = inl (words.NoExtern, refl, refl, refl)
abstract_told from.NoFunc = inl (words.NoFunc, refl, refl, refl)
abstract_told from.Eq = inl (words.Eq, refl, refl, refl)
abstract_told from.Struct = inl (words.Struct, refl, refl, refl)
abstract_told from.Array = inl (words.Array, refl, refl, refl)
abstract_told from.I31 = inl (words.I31, refl, refl, refl)
abstract_told from.Exn = inl (words.Exn, refl, refl, refl)
abstract_told from.NoExn = inl (words.NoExn, refl, refl, refl)
abstract_told from.Cont = inr (refl, refl)
abstract_told from.NoCont = inr (refl, refl)

abstract_agrees : (types : List ℕ) (nullable : Bool) (ty : AbstractHeapType) (later : List ℕ) (left : ℕ)
    → (let x = values.Ref (reference nullable (heaps.Abstract false ty)) in Agrees types x later left (read_value (slice_get types) x) (parsed_from (length types) x later left))
abstract_agrees types nullable ty later left =
    let x = values.Ref (reference nullable (heaps.Abstract false ty)) in
    elim (abstract_told ty) as (λ _. Agrees types x later left (read_value (slice_get types) x) (parsed_from (length types) x later left)) [
      | inl k ↦ rw (k.1, k.2)
          (Ref (record { nullable = nullable; heap_type = into.Abstract k.0 }), refl, (ap (λ (a : AbstractHeapType). values.Ref (reference nullable (heaps.Abstract false a))) k.3, refl))
      | inr k ↦ rw (k.0, k.1) refl
    ]

shared_agrees : (types : List ℕ) (nullable : Bool) (ty : AbstractHeapType) (later : List ℕ) (left : ℕ)
    → (let x = values.Ref (reference nullable (heaps.Abstract true ty)) in Agrees types x later left (read_value (slice_get types) x) (parsed_from (length types) x later left))
shared_agrees types nullable ty later left =
    let x = values.Ref (reference nullable (heaps.Abstract true ty)) in
    elim (abstract_told ty) as (λ _. Agrees types x later left (read_value (slice_get types) x) (parsed_from (length types) x later left)) [
      | inl k ↦ rw (k.1, k.2)
          (Ref (record { nullable = nullable; heap_type = into.Shared k.0 }), refl, (ap (λ (a : AbstractHeapType). values.Ref (reference nullable (heaps.Abstract true a))) k.3, refl))
      | inr k ↦ rw (k.0, k.1) refl
    ]

index_agrees : (types : List ℕ) (nullable : Bool) (n : ℕ) (later : List ℕ) (left : ℕ)
    → (let x = values.Ref (reference nullable (heaps.Concrete (Module n))) in Agrees types x later left (read_value (slice_get types) x) (parsed_from (length types) x later left))
index_agrees types nullable n later left =
    let x = values.Ref (reference nullable (heaps.Concrete (Module n))) in
    elim (slice_get_cases types n).1 as (λ _. Agrees types x later left (read_value (slice_get types) x) (parsed_from (length types) x later left)) [
      | inl h ↦ rw h.2 (Ref (record { nullable = nullable; heap_type = into.Concrete n }), rw (lt-ltb n (length types) h.1) refl, (refl, ap (concrete nullable) (found types n h.0 h.2)))
      | inr h ↦ rw (h.1, le-ltb n (length types) h.0) refl
    ]
  where
    concrete : Bool → ℕ → ValType
    concrete nullable id = Ref (record { nullable = nullable; heap_type = into.Concrete id })

    found : (types : List ℕ) (n id : ℕ) → slice_get types n ≡ Some id → id ≡ slice_index types n
    found types n id e = sym (get_or_from_slice_get types n id 0 e)

pub value_agrees : (types : List ℕ) (x : Written) (later : List ℕ) (left : ℕ) → IsValueIn x → Agrees types x later left (read_value (slice_get types) x) (parsed_from (length types) x later left)
value_agrees types values.I32 later left h = (I32, refl, (refl, refl))
value_agrees types values.I64 later left h = (I64, refl, (refl, refl))
value_agrees types values.F32 later left h = (F32, refl, (refl, refl))
value_agrees types values.F64 later left h = (F64, refl, (refl, refl))
value_agrees types values.V128 later left h = (V128, refl, (refl, refl))
value_agrees types (values.Ref r) later left h = go r.nullable r.heap_type h
  where
    go : (nullable : Bool) (heap : ReadHeap) → IsHeapIn heap → (let x = values.Ref (reference nullable heap) in Agrees types x later left (read_value (slice_get types) x) (parsed_from (length types) x later left))
    go nullable (heaps.Abstract false ty) h = abstract_agrees types nullable ty later left
    go nullable (heaps.Abstract true ty) h = shared_agrees types nullable ty later left
    go nullable (heaps.Concrete (Module n)) h = index_agrees types nullable n later left
    go nullable (heaps.Concrete (RecGroup n)) h = absurd h
    go nullable (heaps.Concrete (Id n)) h = absurd h
    go nullable (heaps.Exact index) h = absurd h

pub type_parsed : (features : WasmFeatures) (types bytes later : List ℕ) (x : Written) → value_at features bytes ≡ Ok (x, later)
    → Agrees types x later (length bytes) (read_value (slice_get types) x) ((value_type features (length types)).parse bytes)
type_parsed features types bytes later x e = rw e (value_agrees types x later (length bytes) (given IsValueIn (value_at features bytes) (x, later) (value_in features bytes) e))

-- ---- as a call answers

type_answers : (types : List ℕ) (x : Written) (own : ValType) (r : Result ValType PairError) (new : Cursor) (left : ℕ) (p : Parsing ValType) → Agrees types x (rest new) left r p → r ≡ Ok own
    → Answers (IsTypeOf types) new (Ok (x, own)) p
type_answers types x own r new left p h e = let F : Result ValType PairError → Type 0 = λ r. Agrees types x (rest new) left r p in subst F e h

pub type_read : (types : List ℕ) (old new : Cursor) (x : Written) (own : ValType) → value_at old.window.features (rest old) ≡ Ok (x, rest new) → read_value (slice_get types) x ≡ Ok own → Forward old new
    → Parses (value_type old.window.features (length types)).parse (IsTypeOf types) old new (Ok (x, own))
type_read types old new x own e r moves = record {
  value = type_answers types x own (read_value (slice_get types) x) new (length (rest old)) _ (type_parsed old.window.features types (rest old) (rest new) x e) r;
  moves = moves;
}

pub type_refused : (types : List ℕ) (old new : Cursor) (x : Written) (error : PairError) (offset : ℕ) (e : BodyError) → value_at old.window.features (rest old) ≡ Ok (x, rest new)
    → read_value (slice_get types) x ≡ Err error → fault_at (trouble_of error) offset ≡ Some e → offset + length (rest old) ≡ end_of old → Forward old new
    → Parses (value_type old.window.features (length types)).parse (IsTypeOf types) old new (Err e)
type_refused types old new x error offset e read r is at moves =
    let left = length (rest old) in
    let F : Result ValType PairError → Type 0 = λ r. Agrees types x (rest new) left r ((value_type old.window.features (length types)).parse (rest old)) in
    let there : offset ≡ end_of new - left = omega (arith, at, ap (λ (w : Window). w.start + length w.bytes) moves.window) in
    record {
      value = inr (stop (trouble_of error) left, subst F r (type_parsed old.window.features types (rest old) (rest new) x read), ap (λ (k : ℕ). fault_at (trouble_of error) k) (sym there) ∙ is);
      moves = moves;
    }
