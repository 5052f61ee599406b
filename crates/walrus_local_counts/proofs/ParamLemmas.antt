-- Lemmas: no function type that is spelled has more than 1,000 parameters.
use Rattle.std.proofs.Common.{◌≡◌, ◌≤◌, inl, inr, Bool, true, false, ℕ, suc, List, [], ◌∷◌, ◌++◌, length, Option, Some, None, IfSome, refl, sym, ap, subst, arith}
use Rattle.std.specs.List.{filter_map, cons_option}
use Rattle.std.specs.Option.{option_map}
use Rattle.std.proofs.lemmas.List.Concat.{flat_map-append}
use Rattle.wasm_ruled_modules.specs.wasm_module_rules.wasm_modules.wasm_body_grammar.wasm_formats.wasm_features.declared.WasmFeatures.{WasmFeatures}
use Rattle.wasm_ruled_modules.specs.wasm_module_rules.wasm_modules.wasm_body_grammar.wasm_formats.wasm_features.Features.{GcTypes, enables}
use Rattle.wasm_ruled_modules.specs.wasm_module_rules.wasm_modules.wasm_types.wasm_composite_types.declared.form.CompositeInnerType.{CompositeInnerType}
use Rattle.wasm_ruled_modules.specs.wasm_module_rules.wasm_modules.wasm_types.wasm_composite_types.declared.form.CompositeInnerType.TheVariants.{Func, Array, Struct, Cont}
use Rattle.wasm_ruled_modules.specs.wasm_module_rules.wasm_modules.wasm_types.wasm_composite_types.declared.form.CompositeType.{CompositeType}
use Rattle.wasm_ruled_modules.specs.wasm_module_rules.wasm_modules.wasm_types.wasm_composite_types.Spellings.{SpellsForm, SpellsEither, SpellsComposite}
use Rattle.wasm_ruled_modules.specs.wasm_module_rules.wasm_modules.wasm_types.declared.subtype.SubType.{SubType}
use Rattle.wasm_ruled_modules.specs.wasm_module_rules.wasm_modules.wasm_types.Spellings.{SpellsSub}
use Rattle.wasm_ruled_modules.specs.wasm_module_rules.wasm_modules.wasm_body_grammar.wasm_grammar.walrus_forms.declared.value.ValType.{ValType}
use Rattle.wasm_ruled_modules.specs.wasm_module_rules.wasm_modules.wasm_body_grammar.wasm_grammar.walrus_forms.declared.value.FieldType.{FieldType}
use Rattle.wasm_ruled_modules.specs.wasm_module_rules.wasm_modules.wasm_body_grammar.wasm_grammar.walrus_forms.Forms.{Form, FunctionForm, StructForm, ArrayForm, params_of}
use Rattle.wasm_ruled_modules.specs.wasm_module_rules.wasm_modules.wasm_body_grammar.wasm_grammar.walrus_forms.Kinds.{Kind, declared_kind}
use Rattle.wasm_ruled_modules.specs.wasm_module_rules.wasm_modules.wasm_body_grammar.wasm_grammar.walrus_forms.Records.{TypeGroup}
use Rattle.wasm_ruled_modules.specs.wasm_module_rules.wasm_modules.wasm_body_grammar.wasm_formats.Bytes.{either_type}
use Rattle.wasm_ruled_modules.specs.wasm_module_rules.wasm_modules.wasm_body_grammar.wasm_formats.Led.{led}
use Rattle.wasm_ruled_modules.specs.wasm_module_rules.wasm_modules.wasm_body_grammar.wasm_formats.Lists.{SpellsEntries}
use Rattle.wasm_ruled_modules.specs.wasm_module_rules.wasm_modules.wasm_body_grammar.wasm_grammar.States.{State, types_of}
use Rattle.wasm_ruled_modules.specs.wasm_module_rules.wasm_modules.wasm_body_grammar.wasm_grammar.TypeWords.{value_of}
use Rattle.wasm_ruled_modules.specs.wasm_module_rules.wasm_modules.wasm_sections.TypeNames.{both, told_all, field_of, form_of, composite_form, super_of, kind_of}
use Rattle.wasm_ruled_modules.specs.wasm_module_rules.wasm_modules.wasm_sections.TypeSection.{Measured, behind, measured, explicit, GroupEntry, single, sub_apart, sub_some, sub_wants, rectype, placed, members, group, type_group, add_group}

-- ---- types with few parameters

abbrev pub most_params : ℕ
most_params = 1000

abbrev FewIn : Form → Type 0
FewIn form = length (params_of form) ≤ most_params

abbrev FormFew : Option Form → Type 0
FormFew None = Unit {0}
FormFew (Some form) = FewIn form

abbrev KindFew : Option Kind → Type 0
KindFew None = Unit {0}
KindFew (Some kind) = FewIn kind.form

abbrev pub AreFew : List Kind → Type 0
AreFew [] = Unit {0}
AreFew (kind ∷ kinds) = FewIn kind.form × AreFew kinds

few_append : (xs ys : List Kind) → AreFew xs → AreFew ys → AreFew (xs ++ ys)
few_append [] ys a b = b
few_append (x ∷ xs) ys a b = (a.0, few_append xs ys a.1 b)

few_consed : (o : Option Kind) (kinds : List Kind) → KindFew o → AreFew kinds → AreFew (cons_option o kinds)
few_consed None kinds h k = k
few_consed (Some kind) kinds h k = (h, k)

-- ---- what is spelled

consed_long : {A B : Type 0} (xs : List A) (a : Option B) (b : Option (List B)) → IfSome b (λ ys. length ys ≡ length xs) → IfSome (both (λ y ys. y ∷ ys) a b) (λ ys. length ys ≡ suc (length xs))
consed_long xs None b h = tt
consed_long xs (Some y) None h = tt
consed_long xs (Some y) (Some ys) h = ap suc h

told_long : {A B : Type 0} (tell : A → Option B) (xs : List A) → IfSome (told_all tell xs) (λ ys. length ys ≡ length xs)
told_long tell [] = refl
told_long tell (x ∷ xs) = consed_long xs (tell x) (told_all tell xs) (told_long tell xs)

func_few : (n : ℕ) (a b : Option (List ValType)) → n ≤ most_params → IfSome a (λ ys. length ys ≡ n) → FormFew (both FunctionForm a b)
func_few n None b le h = tt
func_few n (Some params) None le h = tt
func_few n (Some params) (Some results) le h = omega (arith, le, h)

struct_few : (o : Option (List FieldType)) → FormFew (option_map StructForm o)
struct_few None = tt
struct_few (Some fields) = omega arith

array_few : (o : Option FieldType) → FormFew (option_map ArrayForm o)
array_few None = tt
array_few (Some field) = omega arith

form_few : (features : WasmFeatures) (bytes : List ℕ) (x : CompositeInnerType) → SpellsForm features bytes x → FormFew (form_of x)
form_few features bytes (Func ty) h =
    let params = h.2.3 in
    func_few (length ty.params) (told_all value_of ty.params) (told_all value_of ty.results) params.most (told_long value_of ty.params)
form_few features bytes (Struct ty) h = struct_few (told_all field_of ty.fields)
form_few features bytes (Array ty) h = array_few (field_of ty.0)
form_few features bytes (Cont ty) h = tt

composite_few : (features : WasmFeatures) (bytes : List ℕ) (ty : CompositeType) → SpellsComposite features bytes ty → FormFew (composite_form ty)
composite_few features bytes ty h = go ty.shared h
  where
    go : (shared : Bool) → SpellsEither features shared bytes ty.inner → FormFew (composite_form (record ty { shared = shared }))
    go true h = tt
    go false h = form_few features bytes ty.inner h

declared_few : (final : Bool) (supertype : Option ℕ) (o : Option Form) → FormFew o → KindFew (option_map (λ form. declared_kind form final supertype) o)
declared_few final supertype None h = tt
declared_few final supertype (Some form) h = h

sub_few : (features : WasmFeatures) (bytes : List ℕ) (ty : SubType) → SpellsSub features bytes ty → KindFew (kind_of ty)
sub_few features bytes ty (inl h) = declared_few ty.is_final (super_of ty.supertype_idx) (composite_form ty.composite_type) (let both = h.1.2 in composite_few features both.1 ty.composite_type both.4)
sub_few features bytes ty (inr h) = declared_few ty.is_final (super_of ty.supertype_idx) (composite_form ty.composite_type) (composite_few features bytes ty.composite_type h.2)

abbrev kinds_of : List Measured → List Kind
kinds_of xs = filter_map (λ (x : Measured). kind_of x.1) xs

listed_few : (features : WasmFeatures) (place : ℕ) (xs : List Measured) (bytes : List ℕ) → SpellsEntries behind (measured features) place bytes xs → AreFew (kinds_of (placed place xs))
listed_few features place [] bytes h = tt
listed_few features place (x ∷ xs) bytes h =
    let sub = h.3 in
    few_consed (kind_of x.1) (kinds_of (placed x.0 xs)) (sub_few features h.0 x.1 sub.0) (listed_few features x.0 xs h.1 h.4)

single_few : (features : WasmFeatures) (x : Measured) (bytes : List ℕ) → SpellsSub features bytes x.1 → AreFew (kinds_of ((0, x.1) ∷ []))
single_few features x bytes h = few_consed (kind_of x.1) [] (sub_few features bytes x.1 h) tt

group_few : (features : WasmFeatures) (bytes : List ℕ) (g : GroupEntry) → (rectype features).spells bytes g → AreFew (kinds_of (members g))
group_few features bytes g h = go (enables features GcTypes) g h
  where
    by_led : (g : GroupEntry) → (led 0x4e (explicit features) (measured features 0) (sub_apart features 0) (sub_some features 0) (sub_wants features 0)).spells bytes g → AreFew (kinds_of (members g))
    by_led (inl x) h = let all = h.2 in let entries = all.4 in listed_few features x.0.0 x.1 all.1 entries.0
    by_led (inr x) h = single_few features x bytes h.0

    by_single : (g : GroupEntry) (x : Measured) → (let into : Measured → GroupEntry = λ z. inr z in into x ≡ g) → SpellsSub features bytes x.1 → AreFew (kinds_of (members g))
    by_single g x is h = subst (λ (g : GroupEntry). AreFew (kinds_of (members g))) is (single_few features x bytes h)

    go : (on : Bool) (g : GroupEntry) → either_type on ((led 0x4e (explicit features) (measured features 0) (sub_apart features 0) (sub_some features 0) (sub_wants features 0)).spells bytes g)
        ((single features).spells bytes g) → AreFew (kinds_of (members g))
    go true g h = by_led g h
    go false g h = let spelled = h.2 in by_single g h.0 h.1 spelled.0

-- ---- one more group

pub group_keeps : (features : WasmFeatures) (s : State) (bytes : List ℕ) (x : GroupEntry) → (group features s).spells bytes x → AreFew (types_of s.filled) → AreFew (types_of (add_group s x).filled)
group_keeps features s bytes x h few =
    let kinds : TypeGroup → List Kind = λ g. g.kinds in
    subst AreFew (sym (flat_map-append kinds s.filled.groups (type_group x ∷ [])))
    (few_append (types_of s.filled) ((type_group x).kinds ++ []) few (few_append (type_group x).kinds [] (group_few features bytes x h) tt))
