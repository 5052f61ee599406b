-- Lemmas: the types of a file in the module that was read.
use Rattle.std.specs.Prelude.{ℕ, ◌≡◌, List, IfSome, length, map, Option, Some, None, slice_get, refl}
use Rattle.std.specs.Option.{option_map}
use Rattle.std.proofs.Common.{ap, sym, subst, ◌∙◌}
use Rattle.std.proofs.lemmas.List.{length-map}
use Rattle.walrus_named_bodies.specs.walrus_file_bodies.walrus_items_into.walrus_module_env.walrus_handler_types.walrus_body_steps.wasm_body_grammar.Codes.{kind_params}
use Rattle.walrus_named_bodies.specs.walrus_file_bodies.walrus_items_into.walrus_module_env.walrus_handler_types.walrus_body_steps.wasm_body_grammar.wasm_grammar.States.{form_test}
use Rattle.walrus_named_bodies.specs.walrus_file_bodies.walrus_items_into.walrus_module_env.walrus_handler_types.walrus_body_steps.wasm_body_grammar.wasm_grammar.walrus_forms.Forms.{Form, FunctionForm, StructForm, ArrayForm, params_of}
use Rattle.walrus_named_bodies.specs.walrus_file_bodies.walrus_items_into.walrus_module_env.walrus_handler_types.walrus_body_steps.wasm_body_grammar.wasm_grammar.walrus_forms.Kinds.{Kind}
use Rattle.walrus_named_bodies.specs.walrus_file_bodies.walrus_items_into.walrus_module_env.walrus_handler_types.walrus_body_steps.wasm_body_grammar.wasm_grammar.walrus_forms.Renaming.{at, renamed_form, renamed_kind, renamed_value}
use Rattle.walrus_config.specs.declared.config.ModuleConfig.{ModuleConfig}
use Rattle.walrus_named_bodies.specs.walrus_file_bodies.Read.{steps_grow}
use Rattle.walrus_named_bodies.specs.walrus_file_bodies.walrus_items_into.Numbers.{types_in}
use Rattle.walrus_named_bodies.specs.walrus_file_bodies.walrus_items_into.walrus_tables_into.walrus_sections_into.walrus_known_sections.State.{state_of}
use Rattle.walrus_named_bodies.specs.walrus_file_bodies.walrus_items_into.walrus_tables_into.walrus_sections_into.walrus_known_sections.Types.{kinds_in}
use Rattle.walrus_function_types.specs.Growth.{FoundTypesStay, TablesGrowOn}
use Rattle.walrus_named_bodies.specs.walrus_file_bodies.walrus_items_into.walrus_functions_into.walrus_types_into.Into.{NewTypesStand, TypesNameBelow}
use Rattle.walrus_body_laws.specs.walrus_pairing.walrus_index_maps.Maps.{Ids}
use Rattle.walrus_named_bodies.specs.walrus_item_names.walrus_module.declared.module.Module.{Module as Whole}
use Rattle.walrus_named_bodies.specs.walrus_item_names.walrus_module.walrus_types.Table.{Table, type_at}
use Rattle.walrus_parse_laws.proofs.WholeLemmas.{bare_same}
use Rattle.walrus_named_bodies.specs.Parsed.{IsReadAs, read_features}
use Rattle.walrus_named_bodies.specs.walrus_item_names.Holder.{Holder}
use Rattle.walrus_named_bodies.specs.walrus_item_names.Names.{bare_type}
use Rattle.walrus_named_bodies.specs.walrus_file_bodies.walrus_items_into.walrus_module_env.walrus_handler_types.walrus_tree.walrus_walks.walrus_types.Items.{Item}
use Rattle.walrus_parse_laws.proofs.ListLemmas.{some_is}
use Rattle.walrus_parse_laws.specs.Means.{TypeIs}

-- a type under another name is of the same kind
bare_kind : (t : Table) (id : ℕ) (x : Item) → x.id ≡ id → option_map bare_type (type_at t id) ≡ Some (bare_type x) → TypeIs t id x.kind
bare_kind t id x own e = by (type_at t id) refl e
  where
    by : (o : Option Item) → type_at t id ≡ o → option_map bare_type o ≡ Some (bare_type x) → TypeIs t id x.kind
    by None there e = absurd cc
    by (Some y) there e =
        let same : bare_type y ≡ bare_type x = some_is (bare_type y) (bare_type x) e in record { item = y; there = there; own_id = ap (λ (z : Item). z.id) same ∙ own; kind_is = ap (λ (z : Item). z.kind) same }

-- the type of each index stands under its id, renamed
pub kind_stands : {B : Type 0} → NewTypesStand → TypesNameBelow → FoundTypesStay → TablesGrowOn → (config : ModuleConfig) (bytes : List ℕ) (m : Whole B) (found : Ids) → (is : IsReadAs config bytes m found)
    → found.types ≡ (types_in is.1.sections).ids → (n : ℕ) (kind : Kind) → slice_get (kinds_in is.1.sections.types) n ≡ Some kind
    → (id : ℕ) × (slice_get found.types n ≡ Some id) × TypeIs m.types id (renamed_kind (at found.types) kind)
kind_stands stand below stay on config bytes m found is same n kind there =
    let h = is.1 in
    let s = h.sections in
    let features = read_features config in
    let stood = (stand s.types (below features bytes (state_of s) h.reads.sections)).stand n kind there in
    let x : Item = record { id = stood.0; kind = renamed_kind (at (types_in s).ids) kind; name = None } in
    let grown = steps_grow on h.file features _ _ h.bodied h.bodies_are in
    let filled : type_at h.filled.types stood.0 ≡ Some x = ap (λ (t : Table). type_at t stood.0) h.are_filled.types ∙ stood.2 in
    let bodied : type_at h.bodied.types stood.0 ≡ Some x = (stay h.filled.types h.bodied.types grown).live stood.0 x filled in
    let bare : map (option_map bare_type) m.types.types ≡ map (option_map bare_type) h.bodied.types.types = ap (λ (a : Holder). a.types.types) h.names.same in
    let own = bare_kind m.types stood.0 x refl (bare_same bare_type m.types.types h.bodied.types.types stood.0 bare ∙ ap (option_map bare_type) bodied) in (
      stood.0,
      ap (λ (l : List ℕ). slice_get l n) same ∙ stood.1,
      subst (λ (ids : List ℕ). TypeIs m.types stood.0 (renamed_kind (at ids) kind)) (sym same) own,
    )

-- ---- how many parameters a type has

params_renamed : (r : ℕ → ℕ) (form : Form) → length (params_of (renamed_form r form)) ≡ length (params_of form)
params_renamed r (FunctionForm params results) = length-map params (renamed_value r)
params_renamed r (StructForm fields) = refl
params_renamed r (ArrayForm field) = refl

pub record SomeKind (o : Option Kind) : Type 0 where
  pub kind : Kind
  pub is : o ≡ Some kind

-- a function type is there
pub some_kind : (o : Option Kind) → form_test o ≡ None → SomeKind o
some_kind None e = absurd cc
some_kind (Some kind) e = record { kind = kind; is = refl }

-- what is as many as the parameters of the renamed type is as many as those of the type
pub as_many : (r : ℕ → ℕ) (t : Table) (id : ℕ) (o : Option Kind) (kind : Kind) (count : ℕ) → o ≡ Some kind → TypeIs t id (renamed_kind r kind) → IfSome (type_at t id) (λ ty. count ≡ length (params_of ty.kind.form))
    → count ≡ kind_params o
as_many r t id o kind count is at h =
    subst (λ (z : Option Item). IfSome z (λ ty. count ≡ length (params_of ty.kind.form))) at.there h
    ∙ ap (λ (k : Kind). length (params_of k.form)) at.kind_is ∙ params_renamed r kind.form ∙ ap kind_params (sym is)
