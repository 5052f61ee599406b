-- The maximal runs of a list of locals.
use Rattle.std.specs.Prelude.{ℕ, suc, ◌<◌, ◌≡◌, ◌==◌, Bool, true, false, List, [], ◌∷◌, if◌then◌else◌, slice_index_or, refl}
use Rattle.std.specs.declared.cmp.Ordering.{Ordering}
use Rattle.std.specs.declared.cmp.Ordering.TheVariants.{Less, Equal, Greater}
use Rattle.std.specs.Ordering.{ordering_then, bool_cmp, nat_cmp, is_eq}
use Rattle.std.proofs.Common.{ap, sym, ◌∙◌, subst, arith, inl, inr}
use Rattle.std.proofs.lemmas.Bool.{cases_Bool, cases_lt, lt-ltb, le-ltb, eqb-true}
use Rattle.std.proofs.lemmas.Cmp.{nat_cmp_total, tied_itself}
use Rattle.walrus_forms.specs.declared.value.AbstractHeapType.{AbstractHeapType}
use Rattle.walrus_forms.specs.declared.value.AbstractHeapType.TheVariants as kinds
use Rattle.walrus_forms.specs.declared.value.HeapType.{HeapType}
use Rattle.walrus_forms.specs.declared.value.HeapType.TheVariants.{Abstract, Shared, Concrete, Exact}
use Rattle.walrus_forms.specs.declared.value.RefType.{RefType}
use Rattle.walrus_forms.specs.declared.value.ValType.{ValType}
use Rattle.walrus_forms.specs.declared.value.ValType.TheVariants.{I32, I64, F32, F64, V128, Ref}
use Rattle.walrus_forms.specs.ValueOrder.{abstract_place, heap_cmp, ref_cmp, value_place, value_cmp}
use Rattle.wasm_body_grammar.specs.Bodies.{Run, declared}
use Rattle.wasm_grammar_bytes.specs.Runs.{AreMaximal}

-- one more local in front of these runs
abbrev pub with_first : ValType → List Run → List Run
with_first ty [] = (1, ty) ∷ []
with_first ty (r ∷ list) = if is_eq (value_cmp ty r.1) then (suc r.0, r.1) ∷ list else (1, ty) ∷ (r ∷ list)

-- the maximal runs of these locals
abbrev pub maximal_of : List ValType → List Run
maximal_of [] = []
maximal_of (ty ∷ tys) = with_first ty (maximal_of tys)

-- they are maximal, and declare these locals
abbrev pub EachHasMaximalRuns : Type 0
EachHasMaximalRuns = (tys : List ValType) → AreMaximal (maximal_of tys) × (declared (maximal_of tys) ≡ tys)

-- ---- value types that compare as equal are one

nat_tied : (m n : ℕ) → nat_cmp m n ≡ Equal → m ≡ n
nat_tied m n e = elim (cases_lt m n) [
  | inl lt ↦ let e = (rw (lt-ltb m n lt) at e) in absurd cc
  | inr le ↦ elim (cases_Bool (m == n)) [
    | inl is ↦ eqb-true m n is
    | inr not ↦ let e = (rw (le-ltb m n le, not) at e) in absurd cc
  ]
]

nat_same : (n : ℕ) → nat_cmp n n ≡ Equal
nat_same n = tied_itself nat_cmp_total n

bool_tied : (a b : Bool) → bool_cmp a b ≡ Equal → a ≡ b
bool_tied false false e = refl
bool_tied false true e = absurd cc
bool_tied true false e = absurd cc
bool_tied true true e = refl

bool_same : (a : Bool) → bool_cmp a a ≡ Equal
bool_same false = refl
bool_same true = refl

both_tied : (o p : Ordering) → ordering_then o p ≡ Equal → (o ≡ Equal) × (p ≡ Equal)
both_tied Less p e = absurd cc
both_tied Equal p e = (refl, e)
both_tied Greater p e = absurd cc

abstract_of_place : ℕ → AbstractHeapType
abstract_of_place n =
    slice_index_or (kinds.Func ∷ kinds.Extern ∷ kinds.Any ∷ kinds.None ∷ kinds.NoExtern ∷ kinds.NoFunc ∷ kinds.Eq ∷ kinds.Struct ∷ kinds.Array ∷ kinds.I31 ∷ kinds.Exn ∷ kinds.NoExn ∷ [])
    n kinds.Func

abstract_is : (ty : AbstractHeapType) → abstract_of_place (abstract_place ty) ≡ ty
unfolding abstract_of_place
abstract_is kinds.Func = refl
abstract_is kinds.Extern = refl
abstract_is kinds.Any = refl
abstract_is kinds.None = refl
abstract_is kinds.NoExtern = refl
abstract_is kinds.NoFunc = refl
abstract_is kinds.Eq = refl
abstract_is kinds.Struct = refl
abstract_is kinds.Array = refl
abstract_is kinds.I31 = refl
abstract_is kinds.Exn = refl
abstract_is kinds.NoExn = refl

abstract_tied : (a b : AbstractHeapType) → nat_cmp (abstract_place a) (abstract_place b) ≡ Equal → a ≡ b
abstract_tied a b e = sym (abstract_is a) ∙ ap abstract_of_place (nat_tied (abstract_place a) (abstract_place b) e) ∙ abstract_is b

heap_tied : (a b : HeapType) → heap_cmp a b ≡ Equal → a ≡ b
heap_tied (Abstract a) (Abstract b) e = ap Abstract (abstract_tied a b e)
heap_tied (Abstract a) (Shared b) e = absurd cc
heap_tied (Abstract a) (Concrete b) e = absurd cc
heap_tied (Abstract a) (Exact b) e = absurd cc
heap_tied (Shared a) (Abstract b) e = absurd cc
heap_tied (Shared a) (Shared b) e = ap Shared (abstract_tied a b e)
heap_tied (Shared a) (Concrete b) e = absurd cc
heap_tied (Shared a) (Exact b) e = absurd cc
heap_tied (Concrete a) (Abstract b) e = absurd cc
heap_tied (Concrete a) (Shared b) e = absurd cc
heap_tied (Concrete a) (Concrete b) e = ap Concrete (nat_tied a b e)
heap_tied (Concrete a) (Exact b) e = absurd cc
heap_tied (Exact a) (Abstract b) e = absurd cc
heap_tied (Exact a) (Shared b) e = absurd cc
heap_tied (Exact a) (Concrete b) e = absurd cc
heap_tied (Exact a) (Exact b) e = ap Exact (nat_tied a b e)

heap_same : (a : HeapType) → heap_cmp a a ≡ Equal
heap_same (Abstract a) = nat_same (abstract_place a)
heap_same (Shared a) = nat_same (abstract_place a)
heap_same (Concrete a) = nat_same a
heap_same (Exact a) = nat_same a

ref_tied : (a b : RefType) → ref_cmp a b ≡ Equal → a ≡ b
ref_tied a b e =
    let both = both_tied (bool_cmp a.nullable b.nullable) (heap_cmp a.heap_type b.heap_type) e in
    let null : a.nullable ≡ b.nullable = bool_tied a.nullable b.nullable both.0 in
    let heap : a.heap_type ≡ b.heap_type = heap_tied a.heap_type b.heap_type both.1 in
    ap (λ (n : Bool). record { nullable = n; heap_type = a.heap_type }) null ∙ ap (λ (h : HeapType). record { nullable = b.nullable; heap_type = h }) heap

ref_same : (a : RefType) → ref_cmp a a ≡ Equal
ref_same a = rw (bool_same a.nullable) (heap_same a.heap_type)

value_of_place : ℕ → ValType
value_of_place n = slice_index_or (I32 ∷ I64 ∷ F32 ∷ F64 ∷ V128 ∷ []) n I32

value_is : (ty : ValType) → value_place ty < 5 → value_of_place (value_place ty) ≡ ty
unfolding value_of_place
value_is I32 h = refl
value_is I64 h = refl
value_is F32 h = refl
value_is F64 h = refl
value_is V128 h = refl
value_is (Ref r) h = absurd (omega (arith, h))

places_tied : (a b : ValType) → value_place a < 5 → nat_cmp (value_place a) (value_place b) ≡ Equal → a ≡ b
places_tied a b h e =
    let same = nat_tied (value_place a) (value_place b) e in
    sym (value_is a h) ∙ ap value_of_place same ∙ value_is b (omega (arith, h, same))

value_tied : (a b : ValType) → value_cmp a b ≡ Equal → a ≡ b
value_tied I32 b e = places_tied I32 b (omega arith) e
value_tied I64 b e = places_tied I64 b (omega arith) e
value_tied F32 b e = places_tied F32 b (omega arith) e
value_tied F64 b e = places_tied F64 b (omega arith) e
value_tied V128 b e = places_tied V128 b (omega arith) e
value_tied (Ref a) (Ref b) e = ap Ref (ref_tied a b e)
value_tied (Ref a) I32 e = absurd cc
value_tied (Ref a) I64 e = absurd cc
value_tied (Ref a) F32 e = absurd cc
value_tied (Ref a) F64 e = absurd cc
value_tied (Ref a) V128 e = absurd cc

value_same : (a : ValType) → value_cmp a a ≡ Equal
value_same I32 = refl
value_same I64 = refl
value_same F32 = refl
value_same F64 = refl
value_same V128 = refl
value_same (Ref a) = ref_same a

-- ---- runs

is_tied : (o : Ordering) → is_eq o ≡ true → o ≡ Equal
is_tied Less e = absurd cc
is_tied Equal e = refl
is_tied Greater e = absurd cc

apart : (ty other : ValType) → is_eq (value_cmp ty other) ≡ false → ty ≡ other → ⊥
apart ty other not same =
    let tied : value_cmp ty other ≡ Equal = subst (λ (u : ValType). value_cmp ty u ≡ Equal) same (value_same ty) in
    let clash : true ≡ false = sym (ap is_eq tied) ∙ not in absurd cc

first_maximal : (ty : ValType) (list : List Run) → AreMaximal list → AreMaximal (with_first ty list)
first_maximal ty [] h = (omega arith, tt, tt)
first_maximal ty (r ∷ list) h = elim (cases_Bool (is_eq (value_cmp ty r.1))) as (λ _. AreMaximal (with_first ty (r ∷ list))) [
  | inl is ↦ rw is (omega arith, h.1, h.2)
  | inr not ↦ rw not (omega arith, apart ty r.1 not, h)
]

first_declared : (ty : ValType) (list : List Run) → declared (with_first ty list) ≡ ty ∷ declared list
first_declared ty [] = refl
first_declared ty (r ∷ list) = elim (cases_Bool (is_eq (value_cmp ty r.1))) as (λ _. declared (with_first ty (r ∷ list)) ≡ ty ∷ declared (r ∷ list)) [
  | inl is ↦ rw is (ap (λ (u : ValType). u ∷ declared (r ∷ list)) (sym (value_tied ty r.1 (is_tied (value_cmp ty r.1) is))))
  | inr not ↦ rw not refl
]

pub each_has_maximal_runs : EachHasMaximalRuns
each_has_maximal_runs [] = (tt, refl)
each_has_maximal_runs (ty ∷ tys) =
    let later = each_has_maximal_runs tys in
    (first_maximal ty (maximal_of tys) later.0, first_declared ty (maximal_of tys) ∙ ap (λ (l : List ValType). ty ∷ l) later.1)
