-- The types that were read, by their numbers.
use Rattle.std.specs.Prelude.{ℕ, zero, suc, ◌<◌, ◌≤◌, ◌≡◌, Bool, List, [], ◌∷◌, ◌++◌, length, map, Option, Some, None, slice_get, slice_index_or, refl}
use Rattle.std.specs.List.{flat_map}
use Rattle.std.proofs.Common.{ap, ◌∙◌, arith}
use Rattle.std.proofs.lemmas.List.{length-map, map-append, append-nil}
use Rattle.std.proofs.lemmas.Grind.{flat_map-append}
use Rattle.walrus_forms.specs.declared.record.TypeRecord.{TypeRecord}
use Rattle.walrus_forms.specs.declared.record.GroupRecord.{GroupRecord}
use Rattle.walrus_forms.specs.Kinds.{Kind}
use Rattle.walrus_forms.specs.Records.{TypeGroup, record_form, record_kind, type_group}
use Rattle.wasm_formats.specs.declared.fault.Space.TheVariants as spaces
use Rattle.wasm_formats.specs.Stops.{Trouble, Index, TypeForm}
use Rattle.wasm_sections.specs.wasm_grammar.Values.{must}
use Rattle.wasm_sections.specs.wasm_grammar.States.{is_function, form_test}

-- the types of groups, in their order
abbrev pub kinds_in : List TypeGroup → List Kind
kinds_in groups = flat_map (λ (g : TypeGroup). g.kinds) groups

abbrev pub is_function_kind : Kind → Bool
is_function_kind k = is_function k.form

abbrev pub is_function_type : TypeRecord → Bool
is_function_type ty = is_function (record_form ty.kind)

abbrev pub functions_in : List TypeGroup → List Bool
functions_in groups = map is_function_kind (kinds_in groups)

-- what a type is refused for where a function type has to stand: there is none, or it is another one
abbrev pub form_fault : Option Bool → Option Trouble
form_fault None = Some (Index spaces.Type)
form_fault (Some b) = must b TypeForm

-- ---- lemmas

pub count_is : (groups : List TypeGroup) (functions : List Bool) → functions ≡ functions_in groups → length functions ≡ length (kinds_in groups)
count_is groups functions e = ap length e ∙ length-map (kinds_in groups) is_function_kind

at_is : (ks : List Kind) (n : ℕ) (d : Bool) → n < length ks → form_test (slice_get ks n) ≡ form_fault (Some (slice_index_or (map is_function_kind ks) n d))
at_is [] n d lt = absurd (omega (arith, lt))
at_is (k ∷ ks) zero d lt = refl
at_is (k ∷ ks) (suc n) d lt = at_is ks n d (omega (arith, lt))

past_is : (ks : List Kind) (n : ℕ) → length ks ≤ n → form_test (slice_get ks n) ≡ form_fault None
past_is [] n le = refl
past_is (k ∷ ks) zero le = absurd (omega (arith, le))
past_is (k ∷ ks) (suc n) le = past_is ks n (omega (arith, le))

pub there_is : (groups : List TypeGroup) (functions : List Bool) (n : ℕ) (d : Bool) → functions ≡ functions_in groups → n < length functions
    → form_test (slice_get (kinds_in groups) n) ≡ form_fault (Some (slice_index_or functions n d))
there_is groups functions n d e lt =
    let size = count_is groups functions e in
    rw e (at_is (kinds_in groups) n d (omega (arith, size, lt)))

pub none_is : (groups : List TypeGroup) (functions : List Bool) (n : ℕ) → functions ≡ functions_in groups → length functions ≤ n → form_test (slice_get (kinds_in groups) n) ≡ form_fault None
none_is groups functions n e le = let size = count_is groups functions e in past_is (kinds_in groups) n (omega (arith, size, le))

functions_of : (types : List TypeRecord) → map is_function_kind (map record_kind types) ≡ map is_function_type types
functions_of [] = refl
functions_of (t ∷ types) = ap (λ (l : List Bool). is_function_type t ∷ l) (functions_of types)

pub one_more : (groups : List TypeGroup) (functions : List Bool) (g : GroupRecord) → functions ≡ functions_in groups
    → functions ++ map is_function_type g.types.items ≡ functions_in (groups ++ type_group g ∷ [])
one_more groups functions g e =
    rw (flat_map-append (λ (g : TypeGroup). g.kinds) groups (type_group g ∷ []), map-append is_function_kind (kinds_in groups) (map record_kind g.types.items ++ []), append-nil (map record_kind g.types.items), functions_of g.types.items, e) refl
