-- Lemmas: what is told of a pairing that is refused is what is asked.
use Rattle.std.specs.Prelude.{ℕ, ◌≡◌, ◌⊎◌, nat_lt, Bool, true, false, List, length, Option, Some, None, Ok, Err, refl, slice_get}
use Rattle.std.specs.Option.{is_some, option_map}
use Rattle.std.proofs.Common.{ap, sym, subst, ◌∙◌, inl, inr}
use Rattle.std.proofs.lemmas.Bool.{lt-ltb, le-ltb}
use Rattle.std.proofs.lemmas.Option.{slice_get_cases}
use Rattle.wasm_ref_types.specs.declared.heap.AbstractHeapType.{AbstractHeapType}
use Rattle.wasm_ref_types.specs.declared.heap.AbstractHeapType.TheVariants as abstracts
use Rattle.wasm_ref_types.specs.declared.heap.HeapType.{HeapType}
use Rattle.wasm_ref_types.specs.declared.heap.HeapType.TheVariants.{Abstract, Concrete, Exact}
use Rattle.wasm_ref_types.specs.declared.index.UnpackedIndex.TheVariants.{Module, RecGroup, Id}
use Rattle.wasm_ref_types.specs.declared.value.ValType.{ValType}
use Rattle.wasm_ref_types.specs.declared.value.ValType.TheVariants.{I32, I64, F32, F64, V128, Ref}
use Rattle.wasm_operators.specs.Items.{Types}
use Rattle.walrus_pairing.specs.wasm_operators.Names.{heap_names}
use Rattle.wasm_formats.specs.declared.fault.Form.TheVariants as unsupported
use Rattle.wasm_formats.specs.Stops.{Trouble, Unsupported}
use Rattle.walrus_body_steps.specs.wasm_grammar.TypeWords.{abstract_of, heap_of}
use Rattle.walrus_body_steps.specs.wasm_grammar.Values.{must, first_of}
use Rattle.walrus_forms.specs.declared.value.AbstractHeapType.{AbstractHeapType as OwnAbstract}
use Rattle.walrus_forms.specs.declared.value.AbstractHeapType.TheVariants as kinds
use Rattle.walrus_forms.specs.declared.value.HeapType.{HeapType as OwnHeap}
use Rattle.walrus_forms.specs.declared.value.RefType.{RefType}
use Rattle.walrus_forms.specs.declared.value.ValType.{ValType as OwnValue}
use Rattle.walrus_forms.specs.declared.value.ValType.TheVariants.{Ref as OwnRef}
use Rattle.walrus_pairing.specs.declared.error.PairError.{PairError}
use Rattle.walrus_pairing.specs.declared.error.PairError.TheVariants as pairs
use Rattle.walrus_pairing.specs.Looks.{Or, ◌>>=◌}
use Rattle.walrus_pairing.specs.Types.{read_abstract, read_heap, read_value}
use Rattle.walrus_body_steps.specs.walrus_body_env.declared.error.BodyError.{BodyError}
use Rattle.walrus_body_steps.specs.walrus_body_nesting.Faults.{Fails}
use Rattle.walrus_body_steps.specs.walrus_body_rules.Sights.{Sight, look}
use Rattle.walrus_body_operands.specs.Asked.{pair_fault, is_filed, is_filed_value, named, heap_test, value_test}

-- it answers where the test passes, and its refusal is the test's trouble
abbrev pub Told : {A : Type 0} → Option Trouble → Or A → Type 0
Told t (Ok x) = t ≡ None
Told t (Err e) = (offset : ℕ) → Fails t offset (pair_fault e offset)

-- an item that is there, or isn't
abbrev pub Seen : List ℕ → ℕ → Type 0
Seen xs n = ((x : ℕ) × (slice_get xs n ≡ Some x) × (nat_lt n (length xs) ≡ true)) ⊎ ((slice_get xs n ≡ None) × (nat_lt n (length xs) ≡ false))

pub seen_in : (xs : List ℕ) (n : ℕ) → Seen xs n
seen_in xs n = let c = slice_get_cases xs n in elim c.1 [
  | inl h ↦ inl (h.0, h.2, lt-ltb n (length xs) h.1)
  | inr h ↦ inr (h.1, le-ltb n (length xs) h.0)
]

-- an abstract type is read as the type that is told; that of continuations is neither
abstract_told : (ty : AbstractHeapType) → ((kind : OwnAbstract) × (read_abstract ty ≡ Ok kind) × (abstract_of ty ≡ Some kind)) ⊎ ((read_abstract ty ≡ Err pairs.ContinuationType) × (abstract_of ty ≡ None))
abstract_told abstracts.Func = inl (kinds.Func, refl, refl)
abstract_told abstracts.Extern = inl (kinds.Extern, refl, refl)
abstract_told abstracts.Any = inl (kinds.Any, refl, refl)
abstract_told abstracts.None = inl (kinds.None, refl, refl)
abstract_told abstracts.NoExtern = inl (kinds.NoExtern, refl, refl)
abstract_told abstracts.NoFunc = inl (kinds.NoFunc, refl, refl)
abstract_told abstracts.Eq = inl (kinds.Eq, refl, refl)
abstract_told abstracts.Struct = inl (kinds.Struct, refl, refl)
abstract_told abstracts.Array = inl (kinds.Array, refl, refl)
abstract_told abstracts.I31 = inl (kinds.I31, refl, refl)
abstract_told abstracts.Exn = inl (kinds.Exn, refl, refl)
abstract_told abstracts.NoExn = inl (kinds.NoExn, refl, refl)
abstract_told abstracts.Cont = inr (refl, refl)
abstract_told abstracts.NoCont = inr (refl, refl)

heap_told : (s : Sight) (ty : HeapType) → is_filed ty ≡ true → Told (heap_test s ty) (read_heap (look s Types) ty)
heap_told s (Abstract false ty) filed =
    elim (abstract_told ty) as (λ _. Told (heap_test s (Abstract false ty)) (read_heap (look s Types) (Abstract false ty))) [
      | inl h ↦ rw (h.1, h.2) refl
      | inr h ↦ rw (h.0, h.1) (λ offset. refl)
    ]
heap_told s (Abstract true ty) filed =
    elim (abstract_told ty) as (λ _. Told (heap_test s (Abstract true ty)) (read_heap (look s Types) (Abstract true ty))) [
      | inl h ↦ rw (h.1, h.2) refl
      | inr h ↦ rw (h.0, h.1) (λ offset. refl)
    ]
heap_told s (Concrete (Module n)) filed =
    elim (seen_in s.ids.types n) as (λ _. Told (heap_test s (Concrete (Module n))) (read_heap (look s Types) (Concrete (Module n)))) [
      | inl h ↦ rw (h.1, h.2) refl
      | inr h ↦ rw (h.0, h.1) (λ offset. refl)
    ]
heap_told s (Concrete (RecGroup n)) filed = absurd cc
heap_told s (Concrete (Id id)) filed = absurd cc
heap_told s (Exact (Module n)) filed =
    elim (seen_in s.ids.types n) as (λ _. Told (heap_test s (Exact (Module n))) (read_heap (look s Types) (Exact (Module n)))) [
      | inl h ↦ rw (h.1, h.2) refl
      | inr h ↦ rw (h.0, h.1) (λ offset. refl)
    ]
heap_told s (Exact (RecGroup n)) filed = absurd cc
heap_told s (Exact (Id id)) filed = absurd cc

pub refused : {A : Type 0} (t : Option Trouble) (r : Or A) (e : PairError) (offset : ℕ) (b : BodyError) → Told t r → r ≡ Err e → b ≡ pair_fault e offset → Fails t offset b
refused t r e offset b told is same = subst (Fails t offset) (sym same) (subst (Told t) is told offset)

pub heap_refused : (s : Sight) (ty : HeapType) (e : PairError) (offset : ℕ) (b : BodyError) → is_filed ty ≡ true → read_heap (look s Types) ty ≡ Err e → b ≡ pair_fault e offset
    → Fails (heap_test s ty) offset b
heap_refused s ty e offset b filed is same = refused (heap_test s ty) (read_heap (look s Types) ty) e offset b (heap_told s ty filed) is same

-- a value made of another
pub then_told : {A B : Type 0} (t u : Option Trouble) (r : Or A) (make : A → B) → t ≡ u → Told t r → Told u (r >>= λ x. Ok (make x))
then_told t u (Ok x) make same told = sym same ∙ told
then_told t u (Err e) make same told = λ offset. subst (λ (v : Option Trouble). Fails v offset (pair_fault e offset)) same (told offset)

abbrev to : Bool → OwnHeap → RefType
to nullable heap = record { nullable = nullable; heap_type = heap }

-- of references the words are those of their heap types
words_same : {A B C : Type 0} (f : A → B) (g : B → C) (o : Option A) → is_some (option_map g (option_map f o)) ≡ is_some o
words_same f g None = refl
words_same f g (Some x) = refl

value_told : (s : Sight) (ty : ValType) → is_filed_value ty ≡ true → Told (value_test s ty) (read_value (look s Types) ty)
value_told s I32 filed = refl
value_told s I64 filed = refl
value_told s F32 filed = refl
value_told s F64 filed = refl
value_told s V128 filed = refl
value_told s (Ref ty) filed =
    let words = ap (λ (b : Bool). first_of (named s (heap_names ty.heap_type)) (must b (Unsupported unsupported.SharedType))) (words_same (λ (h : OwnHeap). to ty.nullable h) OwnRef (heap_of ty.heap_type)) in
    then_told (heap_test s ty.heap_type) (value_test s (Ref ty)) (read_heap (look s Types) ty.heap_type) (λ heap. OwnRef (to ty.nullable heap)) (sym words) (heap_told s ty.heap_type filed)

pub value_refused : (s : Sight) (ty : ValType) (e : PairError) (offset : ℕ) (b : BodyError) → is_filed_value ty ≡ true → read_value (look s Types) ty ≡ Err e → b ≡ pair_fault e offset
    → Fails (value_test s ty) offset b
value_refused s ty e offset b filed is same = refused (value_test s ty) (read_value (look s Types) ty) e offset b (value_told s ty filed) is same

pub passed : {A : Type 0} (t : Option Trouble) (r : Or A) (x : A) → Told t r → r ≡ Ok x → t ≡ None
passed t r x told is = subst (Told t) is told

pub heap_passed : (s : Sight) (ty : HeapType) (own : OwnHeap) → is_filed ty ≡ true → read_heap (look s Types) ty ≡ Ok own → heap_test s ty ≡ None
heap_passed s ty own filed is = passed (heap_test s ty) (read_heap (look s Types) ty) own (heap_told s ty filed) is

pub value_passed : (s : Sight) (ty : ValType) (own : OwnValue) → is_filed_value ty ≡ true → read_value (look s Types) ty ≡ Ok own → value_test s ty ≡ None
value_passed s ty own filed is = passed (value_test s ty) (read_value (look s Types) ty) own (value_told s ty filed) is
