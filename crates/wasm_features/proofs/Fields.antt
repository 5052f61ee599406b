-- Sets made of one field for each name.
use Rattle.std.proofs.Common.{◌≡◌, Bool, true, false, ◌&&◌, ◌||◌, not, eqb, ◌<◌, ◌-◌, ◌^◌, List, [], ◌∷◌, arith, ap, ◌∙◌, sym, subst, refl, cond}
use Rattle.std.specs.Prelude.{if◌then◌else◌, filter}
use Rattle.std.specs.List.{list_any}
use Rattle.std.proofs.lemmas.Nat.{or_lt, and_le_l}
use Rattle.wasm_features.specs.declared.WasmFeatures.{WasmFeatures}
use Rattle.wasm_features.specs.declared.inflated.WasmFeaturesInflated.{WasmFeaturesInflated}
use Rattle.wasm_features.specs.Features.{Feature, MutableGlobal, SaturatingFloatToInt, SignExtension, ReferenceTypes, MultiValue, BulkMemory, Simd, RelaxedSimd, Threads, SharedEverythingThreads, TailCall, Floats, MultiMemory, Exceptions, Memory64, ExtendedConst, FunctionReferences, Gc, CustomPageSizes, LegacyExceptions, GcTypes, WideArithmetic, CallIndirectOverlong, BulkMemoryOpt, has, enables, constant, place, features_of, all_names}
use Rattle.wasm_features.specs.Inflated.{field, inflated, deflated, InflateGivesBack}
use Rattle.wasm_features.specs.Sets.{HasExactly, IsNamed, union, difference}
use Rattle.wasm_features.proofs.Names.{same_name, listed, list_is_set, list_is_named, set_is_its_names, union_by_names, difference_by_names}

-- whether a list of names has a name
abbrev has_name : Feature → List Feature → Bool
has_name name names = list_any (λ other. eqb (place other) (place name)) names

-- the names that a filter leaves are those that pass its test
kept : (test : Feature → Bool) (first : Feature) (rest : List Feature) (name : Feature) (passes same : Bool)
    → test first ≡ passes → eqb (place first) (place name) ≡ same
    → has_name name (filter test rest) ≡ (test name && has_name name rest)
    → has_name name (cond passes (first ∷ filter test rest) (filter test rest)) ≡ (test name && (same || has_name name rest))
kept test first rest name true true p q h =
    ap (λ (b : Bool). b || has_name name (filter test rest)) q
    ∙ ap (λ (b : Bool). b && true) (sym (ap test (sym (same_name first name q)) ∙ p))
kept test first rest name true false p q h = ap (λ (b : Bool). b || has_name name (filter test rest)) q ∙ h
kept test first rest name false true p q h =
    let no = ap test (sym (same_name first name q)) ∙ p in
    h ∙ ap (λ (b : Bool). b && has_name name rest) no ∙ ap (λ (b : Bool). b && true) (sym no)
kept test first rest name false false p q h = h

and_false : (b : Bool) → (b && false) ≡ false
and_false true = refl
and_false false = refl

filtered : (test : Feature → Bool) (names : List Feature) (name : Feature)
    → has_name name (filter test names) ≡ (test name && has_name name names)
filtered test [] name = sym (and_false (test name))
filtered test (first ∷ rest) name =
    kept test first rest name (test first) (eqb (place first) (place name)) refl refl (filtered test rest name)

and_true : (b : Bool) → (b && true) ≡ b
and_true true = refl
and_true false = refl

-- a set made of fields has the names whose fields are true
pub has_fields : (fields : WasmFeaturesInflated) → HasExactly (deflated fields) (field fields)
has_fields fields name =
    list_is_set (filter (field fields) all_names) name ∙ filtered (field fields) all_names name
    ∙ ap (λ (b : Bool). field fields name && b) (listed name) ∙ and_true (field fields name)

-- what the accessors answer of such a set
answer : WasmFeaturesInflated → Feature → Bool
answer fields ReferenceTypes = fields.reference_types && fields.call_indirect_overlong
answer fields BulkMemory = fields.bulk_memory && fields.bulk_memory_opt
answer fields name = field fields name

answers : (fields : WasmFeaturesInflated) (name : Feature) → enables (deflated fields) name ≡ answer fields name
unfolding answer
answers fields ReferenceTypes = λ i. has_fields fields ReferenceTypes i && has_fields fields CallIndirectOverlong i
answers fields BulkMemory = λ i. has_fields fields BulkMemory i && has_fields fields BulkMemoryOpt i
answers fields name = has_fields fields name

pub inflate_gives_back : InflateGivesBack
unfolding answer
inflate_gives_back fields = ap inflated (λ i name. answers fields name i)

or_if : (a b : Bool) → (a || b) ≡ (if b then true else a)
or_if true true = refl
or_if true false = refl
or_if false true = refl
or_if false false = refl

and_if : (a b : Bool) → (a && not b) ≡ (if b then false else a)
and_if true true = refl
and_if true false = refl
and_if false true = refl
and_if false false = refl

-- ---- the names are set or cleared in order
-- what was said of a name last: the names that were set or cleared, the last one first
abbrev pub told : WasmFeaturesInflated → List Feature → Feature → Bool
told fields [] name = false
told fields (last ∷ before) name = if has_name name (constant last) then field fields last else told fields before name

pub record IsTold (fields : WasmFeaturesInflated) (done : List Feature) (features : WasmFeatures) : Type 0 where
  pub names : HasExactly features (told fields done)
  pub named : IsNamed features

pub none_told : (fields : WasmFeaturesInflated) (features : WasmFeatures) → features ≡ features_of [] → IsTold fields [] features
none_told fields features e = subst (IsTold fields []) (sym e) (record { names = list_is_set []; named = list_is_named [] })

set_names : (old other : WasmFeatures) (value : Bool) → other.bits < 2 ^ 32
    → HasExactly (if value then union old other else difference old other) (λ name. if has other name then value else has old name)
set_names old other true fits name = union_by_names old other name ∙ or_if (has old name) (has other name)
set_names old other false fits name = difference_by_names old other fits name ∙ and_if (has old name) (has other name)

set_named : (old other : WasmFeatures) (value : Bool) → IsNamed old → IsNamed other
    → IsNamed (if value then union old other else difference old other)
set_named old other true p q = or_lt 24 old.bits other.bits p q
set_named old other false p q = omega (arith, p, and_le_l old.bits (2 ^ 32 - 1 - other.bits))

pub then_set : (fields : WasmFeaturesInflated) (done : List Feature) (last : Feature) (old new : WasmFeatures)
    → IsTold fields done old
    → new ≡ (if field fields last then union old (features_of (constant last)) else difference old (features_of (constant last)))
    → IsTold fields (last ∷ done) new
then_set fields done last old new before e =
    let other : WasmFeatures = features_of (constant last) in
    let named = list_is_named (constant last) in
    subst (IsTold fields (last ∷ done)) (sym e) (record {
      names = λ name. set_names old other (field fields last) (omega (arith, named)) name
          ∙ (λ i. if list_is_set (constant last) name i then field fields last else before.names name i);
      named = set_named old other (field fields last) before.named named;
    })

-- all names, the last one first
abbrev pub told_names : List Feature
told_names = BulkMemoryOpt ∷ CallIndirectOverlong ∷ WideArithmetic ∷ GcTypes ∷ LegacyExceptions ∷ CustomPageSizes ∷ Gc ∷ FunctionReferences ∷ ExtendedConst ∷ Memory64 ∷ Exceptions ∷ MultiMemory ∷ Floats ∷ TailCall ∷ SharedEverythingThreads ∷ Threads ∷ RelaxedSimd ∷ Simd ∷ BulkMemory ∷ MultiValue ∷ ReferenceTypes ∷ SignExtension ∷ SaturatingFloatToInt ∷ MutableGlobal ∷ []

told_all : (fields : WasmFeaturesInflated) (name : Feature) → told fields told_names name ≡ field fields name
told_all fields MutableGlobal = refl
told_all fields _ = refl

pub all_told : (fields : WasmFeaturesInflated) (features : WasmFeatures) → IsTold fields told_names features → features ≡ deflated fields
all_told fields features done = set_is_its_names features (deflated fields) done.named (list_is_named (filter (field fields) all_names))
    (λ name. done.names name ∙ told_all fields name ∙ sym (has_fields fields name))
