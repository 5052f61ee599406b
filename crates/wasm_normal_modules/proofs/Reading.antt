-- Lemmas: modules that are read, types as they are, and a data count section besides.
use Rattle.std.specs.Prelude.{ℕ, ◌≡◌, ◌+◌, ◌==◌, Bool, true, false, List, [], ◌∷◌, length, map, Option, Some, None, slice_get, refl, if◌then◌else◌}
use Rattle.std.specs.Option.{option_map}
use Rattle.std.proofs.Common.{ap, sym, ◌∙◌, subst, inl, inr}
use Rattle.std.proofs.lemmas.Option.{slice_get_within}
use Rattle.wasm_ruled_renamed.specs.wasm_ruled_normal.wasm_ruled_modules.wasm_module_rules.wasm_modules.wasm_body_grammar.wasm_grammar.walrus_forms.Forms.{Form, FunctionForm, StructForm, ArrayForm}
use Rattle.wasm_ruled_renamed.specs.wasm_ruled_normal.wasm_ruled_modules.wasm_module_rules.wasm_modules.wasm_body_grammar.wasm_grammar.walrus_forms.Kinds.{Kind}
use Rattle.wasm_ruled_renamed.specs.wasm_ruled_normal.wasm_ruled_modules.wasm_module_rules.wasm_modules.wasm_body_grammar.wasm_grammar.walrus_forms.Renaming.{renamed_field, renamed_form, renamed_heap, renamed_kind, renamed_storage, renamed_value}
use Rattle.wasm_ruled_renamed.specs.wasm_ruled_normal.wasm_ruled_modules.wasm_module_rules.wasm_modules.wasm_body_grammar.wasm_grammar.walrus_forms.declared.value.FieldType.{FieldType}
use Rattle.wasm_ruled_renamed.specs.wasm_ruled_normal.wasm_ruled_modules.wasm_module_rules.wasm_modules.wasm_body_grammar.wasm_grammar.walrus_forms.declared.value.HeapType.{HeapType}
use Rattle.wasm_ruled_renamed.specs.wasm_ruled_normal.wasm_ruled_modules.wasm_module_rules.wasm_modules.wasm_body_grammar.wasm_grammar.walrus_forms.declared.value.HeapType.TheVariants.{Abstract, Shared, Concrete, Exact}
use Rattle.wasm_ruled_renamed.specs.wasm_ruled_normal.wasm_ruled_modules.wasm_module_rules.wasm_modules.wasm_body_grammar.wasm_grammar.walrus_forms.declared.value.RefType.{RefType}
use Rattle.wasm_ruled_renamed.specs.wasm_ruled_normal.wasm_ruled_modules.wasm_module_rules.wasm_modules.wasm_body_grammar.wasm_grammar.walrus_forms.declared.value.StorageType.{StorageType}
use Rattle.wasm_ruled_renamed.specs.wasm_ruled_normal.wasm_ruled_modules.wasm_module_rules.wasm_modules.wasm_body_grammar.wasm_grammar.walrus_forms.declared.value.StorageType.TheVariants.{Val, I8, I16}
use Rattle.wasm_ruled_renamed.specs.wasm_ruled_normal.wasm_ruled_modules.wasm_module_rules.wasm_modules.wasm_body_grammar.wasm_grammar.walrus_forms.declared.value.ValType.{ValType}
use Rattle.wasm_ruled_renamed.specs.wasm_ruled_normal.wasm_ruled_modules.wasm_module_rules.wasm_modules.wasm_body_grammar.wasm_grammar.walrus_forms.declared.value.ValType.TheVariants.{I32, I64, F32, F64, V128, Ref}
use Rattle.wasm_ruled_renamed.specs.wasm_ruled_normal.wasm_ruled_modules.wasm_module_rules.wasm_modules.wasm_body_grammar.wasm_formats.declared.fault.Space.TheVariants as spaces
use Rattle.wasm_ruled_renamed.specs.wasm_ruled_normal.wasm_ruled_modules.wasm_module_rules.wasm_modules.wasm_body_grammar.wasm_formats.wasm_features.declared.WasmFeatures.{WasmFeatures}
use Rattle.wasm_ruled_renamed.specs.wasm_ruled_normal.wasm_ruled_modules.wasm_module_rules.wasm_modules.wasm_body_grammar.Bodies.{frames_of}
use Rattle.wasm_ruled_renamed.specs.wasm_ruled_normal.wasm_ruled_modules.wasm_module_rules.wasm_modules.wasm_body_grammar.Codes.{param_count}
use Rattle.wasm_ruled_renamed.specs.wasm_ruled_normal.wasm_ruled_modules.wasm_module_rules.wasm_modules.wasm_body_grammar.Frames.{Frame, Plain as PlainFrame, turned}
use Rattle.wasm_ruled_renamed.specs.wasm_ruled_normal.wasm_ruled_modules.wasm_module_rules.wasm_modules.wasm_body_grammar.Rules.{Around}
use Rattle.wasm_ruled_renamed.specs.wasm_ruled_normal.wasm_ruled_modules.wasm_module_rules.wasm_modules.wasm_body_grammar.wasm_grammar.Modules.{Body, Export, Function, Import, Imported, Module, Origin, Own, Placed}
use Rattle.wasm_ruled_renamed.specs.wasm_ruled_normal.wasm_ruled_modules.wasm_module_rules.wasm_modules.wasm_body_grammar.wasm_grammar.States.{State, types_of}
use Rattle.wasm_ruled_renamed.specs.wasm_ruled_normal.wasm_ruled_modules.wasm_module_rules.wasm_modules.wasm_body_grammar.wasm_operators.Operators.{Seen, flow_of}
use Rattle.wasm_ruled_renamed.specs.wasm_ruled_normal.wasm_ruled_modules.wasm_module_rules.Keeps.{each_later, each_push}
use Rattle.wasm_ruled_renamed.specs.wasm_ruled_normal.wasm_ruled_modules.wasm_module_rules.Linked.{Each}
use Rattle.wasm_ruled_renamed.specs.wasm_ruled_normal.wasm_ruled_modules.Keeping.{EntriesKeep, file_kept}
use Rattle.wasm_ruled_renamed.specs.wasm_ruled_normal.wasm_ruled_modules.Reading.{read_modules_are_ruled}
use Rattle.wasm_ruled_renamed.specs.wasm_ruled_normal.wasm_ruled_modules.Rules.{AreOperators, HasBody, IsRuled, OriginRuled, around_bodies}
use Rattle.wasm_ruled_renamed.proofs.wasm_ruled_normal.Tests.{Passes, passes, tested}
use Rattle.wasm_ruled_renamed.specs.Types.{Retypes, RetypesInOrder}
use Rattle.wasm_ruled_renamed.specs.wasm_ruled_normal.wasm_ruled_modules.wasm_module_rules.wasm_modules.wasm_sections.Entities.{Entity, FunctionOf, TableOf, MemoryOf, GlobalOf, TagOf, ImportEntry, TableEntry, add_entity, add_table, import_of, space_of, with_import}
use Rattle.wasm_ruled_renamed.specs.wasm_ruled_normal.wasm_ruled_modules.wasm_module_rules.wasm_modules.wasm_sections.Exports.{ExportEntry, add_export, kind_space}
use Rattle.wasm_normal_modules.specs.Modules.{BlockTypesAreTheirPicks, MeetsRules, NormalFormsOfReadModulesAreRuled, NormalModulesAreRuled, OwnNormalFormsAreRuled, ReadModulesBringNoTypes, ReadModulesMeetRules, RulesHoldCounted, own_normal}

-- ---- nothing that is a type is imported or exported

abbrev Plain : Module → Type 0
Plain m = Each (λ (i : Import). i.item.space ≡ spaces.«Type» → ⊥) m.imports × Each (λ (e : Export). e.item.space ≡ spaces.«Type» → ⊥) m.exports

entity_plain : (e : Entity) → space_of e ≡ spaces.«Type» → ⊥
entity_plain (FunctionOf ty) e = absurd cc
entity_plain (TableOf ty) e = absurd cc
entity_plain (MemoryOf ty) e = absurd cc
entity_plain (GlobalOf ty) e = absurd cc
entity_plain (TagOf ty) e = absurd cc

entity_stays : (s : State) (n : ℕ) (e : Entity) → Plain s.filled → Plain (add_entity s n e).filled
entity_stays s n (FunctionOf ty) h = h
entity_stays s n (TableOf ty) h = h
entity_stays s n (MemoryOf ty) h = h
entity_stays s n (GlobalOf ty) h = h
entity_stays s n (TagOf ty) h = h

import_plain : (s : State) (x : ImportEntry) → Plain s.filled → Plain (add_entity (with_import s (import_of s x)) (length s.filled.imports) x.1.1.1).filled
import_plain s x h =
    entity_stays (with_import s (import_of s x)) (length s.filled.imports) x.1.1.1
    (each_push (λ (i : Import). i.item.space ≡ spaces.«Type» → ⊥) s.filled.imports (import_of s x) h.0 (entity_plain x.1.1.1), h.1)

table_plain : (s : State) (x : TableEntry) → Plain s.filled → Plain (add_table s x).filled
table_plain s (inl x) h = h
table_plain s (inr ty) h = h

kind_plain : (a b c d : Bool) → (if a then spaces.Function else (if b then spaces.Table else (if c then spaces.Memory else (if d then spaces.Global else spaces.Tag)))) ≡ spaces.«Type» → ⊥
kind_plain true b c d e = absurd cc
kind_plain false true c d e = absurd cc
kind_plain false false true d e = absurd cc
kind_plain false false false true e = absurd cc
kind_plain false false false false e = absurd cc

export_plain : (s : State) (x : ExportEntry) → Plain s.filled → Plain (add_export s x).filled
export_plain s x h =
    let e : Export = record { name = x.0.0; item = record { space = kind_space x.0.1; number = x.1 } } in
    (h.0, each_push (λ (e : Export). e.item.space ≡ spaces.«Type» → ⊥) s.filled.exports e h.1 (kind_plain (x.0.1 == 0) (x.0.1 == 1) (x.0.1 == 2) (x.0.1 == 3)))

plain_kept : (features : WasmFeatures) → EntriesKeep features Plain
plain_kept features = record {
  customs = λ _ s x h. h;
  groups = λ s bytes x _ r h. h;
  imports = λ s bytes x _ r h. import_plain s x h;
  functions = λ s bytes x _ r h. h;
  tables = λ s bytes x _ r h. table_plain s x h;
  memories = λ s bytes x _ r h. h;
  tags = λ s bytes x _ r h. h;
  globals = λ s bytes x _ r h. h;
  exports = λ s bytes x _ r h. export_plain s x h;
  start = λ s n r h. h;
  elements = λ s bytes x _ r h. h;
  segments = λ s bytes x _ r h. h;
}

pub bring_no_types : ReadModulesBringNoTypes
bring_no_types features bytes m h =
    let reads = h.1.2 in
    let plain = subst (λ (s : State). Plain s.filled) reads.2 (file_kept features Plain (plain_kept features) (tt, tt) bytes reads.0 reads.1.0 reads.1.1) in
    let there : Plain m = subst Plain h.1.4 plain in
    record { imports = there.0; exports = there.1 }

-- ---- types as they are

abbrev own : ℕ → ℕ
own n = n

heap_own : (ty : HeapType) → renamed_heap own ty ≡ ty
heap_own (Abstract ty) = refl
heap_own (Shared ty) = refl
heap_own (Concrete n) = refl
heap_own (Exact n) = refl

value_own : (ty : ValType) → renamed_value own ty ≡ ty
value_own I32 = refl
value_own I64 = refl
value_own F32 = refl
value_own F64 = refl
value_own V128 = refl
value_own (Ref ty) = ap (λ (h : HeapType). let t : RefType = record { nullable = ty.nullable; heap_type = h } in Ref t) (heap_own ty.heap_type)

storage_own : (s : StorageType) → renamed_storage own s ≡ s
storage_own (Val ty) = ap Val (value_own ty)
storage_own I8 = refl
storage_own I16 = refl

field_own : (x : FieldType) → renamed_field own x ≡ x
field_own x = ap (λ (s : StorageType). let t : FieldType = record { element_type = s; mutable = x.mutable } in t) (storage_own x.element_type)

list_own : {A : Type 0} (f : A → A) → ((x : A) → f x ≡ x) → (xs : List A) → map f xs ≡ xs
list_own f each [] = refl
list_own {A} f each (x ∷ xs) = ap (λ (y : A). y ∷ map f xs) (each x) ∙ ap (λ (l : List A). x ∷ l) (list_own f each xs)

form_own : (form : Form) → renamed_form own form ≡ form
form_own (FunctionForm params results) =
    ap (λ (vs : List ValType). FunctionForm vs (map (renamed_value own) results)) (list_own (renamed_value own) value_own params) ∙ ap (FunctionForm params) (list_own (renamed_value own) value_own results)
form_own (StructForm fields) = ap StructForm (list_own (renamed_field own) field_own fields)
form_own (ArrayForm field) = ap ArrayForm (field_own field)

option_own : {A : Type 0} (f : A → A) → ((x : A) → f x ≡ x) → (o : Option A) → option_map f o ≡ o
option_own f each None = refl
option_own f each (Some x) = ap Some (each x)

pub kind_own : (k : Kind) → renamed_kind own k ≡ k
kind_own k =
    ap (λ (f : Form). let j : Kind = record { form = f; final = k.final; supertype = option_map own k.supertype; entry = k.entry } in j) (form_own k.form)
    ∙ ap (λ (o : Option ℕ). let j : Kind = record { form = k.form; final = k.final; supertype = o; entry = k.entry } in j) (option_own own (λ n. refl) k.supertype)

module _ (place : Option ℕ → ℕ) (features : WasmFeatures) (counted : Bool) (m : Module) where
  abbrev own_types : Retypes own (around_bodies features counted m) (around_bodies features counted (own_normal place features counted m))
  own_types = record { stands = λ n lt. sym (option_own (renamed_kind own) kind_own (slice_get (types_of m) n)); over = own; alike = λ n lt. refl; first = λ n lt e. e }

  own_in_order : RetypesInOrder own (around_bodies features counted m) (around_bodies features counted (own_normal place features counted m))
  own_in_order = record {
    retypes = own_types;
    back = own;
    apart = λ n lt. refl;
    rising = λ k n lt _ _ _. lt;
    others = λ k kind at e. inl (k, slice_get_within (types_of m) k kind at, e, refl);
  }

pub own_normal_ruled : NormalModulesAreRuled → BlockTypesAreTheirPicks → OwnNormalFormsAreRuled
own_normal_ruled normal picked place features counted m plain h = (
  normal place features counted own m.groups m (own_types place features counted m) h.groups plain h,
  picked place features counted own m.groups m (own_in_order place features counted m) h,
)

-- ---- a data count section besides

module _ (features : WasmFeatures) (counted : Bool) (m : Module) where
  abbrev a : Around
  a = around_bodies features counted m

  abbrev b : Around
  b = around_bodies features true m

  passes_counted : (locals : ℕ) (frames : List Frame) (op : Seen) → Passes a locals frames op → Passes b locals frames op
  passes_counted locals frames op h = record {
    named = h.named;
    formed = h.formed;
    nested = h.nested;
    counted = refl;
    selects = h.selects;
    worded = h.worded;
    reached = h.reached;
  }

  operators_counted : (locals : ℕ) (frames : List Frame) (ops : List Placed) → AreOperators a locals frames ops → AreOperators b locals frames ops
  operators_counted locals frames [] h = h
  operators_counted locals frames (o ∷ ops) h = (
    h.0,
    tested b locals frames o.op (passes_counted locals frames o.op (passes a locals frames o.op h.1)),
    operators_counted locals (frames_of (turned (flow_of o.op.code) frames) frames) ops h.2,
  )

  origin_counted : (params : ℕ) (o : Origin Body) → OriginRuled a params o → OriginRuled b params o
  origin_counted params (Imported n) h = tt
  origin_counted params (Own x) h = record { counted = h.counted; named = h.named; operators = operators_counted (params + length x.locals) (PlainFrame ∷ []) x.operators h.operators }

  counted_rules : MeetsRules features counted m → MeetsRules features true m
  counted_rules h = record {
    linked = h.linked;
    groups = h.groups;
    named = h.named;
    expressed = h.expressed;
    bodies = each_later (λ (f : Function). HasBody a f) (λ (f : Function). HasBody b f) (λ f k. origin_counted (param_count a.filled f.ty) f.origin k) m.functions h.bodies;
  }

pub rules_counted : RulesHoldCounted
rules_counted features counted m h = counted_rules features counted m h

pub rules_meet : (features : WasmFeatures) (counted : Bool) (m : Module) → IsRuled features counted m → MeetsRules features counted m
rules_meet features counted m h = record { linked = h.linked; groups = h.groups; named = h.named; expressed = h.expressed; bodies = h.bodies }

pub read_modules_meet : ReadModulesMeetRules
read_modules_meet features bytes m h = let ruled = read_modules_are_ruled features bytes m h in rules_counted features ruled.0 m (rules_meet features ruled.0 m ruled.1)

pub read_modules_normal : OwnNormalFormsAreRuled → NormalFormsOfReadModulesAreRuled
read_modules_normal normal place features bytes m h = normal place features true m (bring_no_types features bytes m h) (read_modules_meet features bytes m h)
