-- Lemmas: what value types name, by a list of them and by a kind that has them.
use Rattle.std.specs.Prelude.{ℕ, ◌≡◌, List, [], ◌∷◌, ◌++◌, map, Option, Some, None, option_to_list, refl}
use Rattle.std.specs.List.{filter_map}
use Rattle.std.specs.Option.{option_and_then}
use Rattle.std.proofs.Common.{append-nil, subst, sym}
use Rattle.walrus_forms.specs.Forms.{Form, FunctionForm, StructForm, ArrayForm, form_names}
use Rattle.walrus_forms.specs.Kinds.{Kind, entry_kind, function_kind, kind_names}
use Rattle.walrus_forms.specs.Values.{value_name}
use Rattle.walrus_forms.specs.declared.value.HeapType.{HeapType}
use Rattle.walrus_forms.specs.declared.value.HeapType.TheVariants.{Abstract, Shared, Concrete, Exact}
use Rattle.walrus_forms.specs.declared.value.ValType.{ValType}
use Rattle.walrus_forms.specs.declared.value.ValType.TheVariants.{I32, I64, F32, F64, V128, Ref}
use Rattle.walrus_function_types.specs.FunctionTypes.{form_params, form_results, params_at, results_at}
use Rattle.walrus_body_laws.specs.walrus_marks.walrus_instr.declared.seq.InstrSeqType.{InstrSeqType}
use Rattle.walrus_body_laws.specs.walrus_marks.walrus_instr.declared.seq.InstrSeqType.TheVariants.{Simple, MultiValue}
use Rattle.walrus_body_laws.specs.walrus_marks.Named.{items_of}
use Rattle.walrus_named_bodies.specs.walrus_file_bodies.walrus_items_into.walrus_module_env.walrus_handler_types.walrus_body_steps.walrus_body_nesting.wasm_formats.declared.fault.Space.TheVariants as spaces
use Rattle.walrus_named_bodies.specs.walrus_file_bodies.walrus_items_into.walrus_tables_into.walrus_sections.walrus_roots.Items.{item}
use Rattle.walrus_body_laws.specs.walrus_marks.walrus_walks.Events.{Event, NamesType, block_names, events_of, val_names}
use Rattle.walrus_named_bodies.specs.walrus_file_bodies.walrus_items_into.walrus_tables_into.walrus_sections.walrus_roots.declared.item.Item.{Item}
use Rattle.walrus_types.specs.Items.{Item as TypeItem}
use Rattle.walrus_types.specs.Table.{Table, type_at}
use Rattle.walrus_parse_laws.proofs.ListLemmas.{AllOf, some_is}

abbrev pub names_types : List ℕ → List Event
names_types ns = map (λ name. NamesType name) ns

module _ (Good : Item → Type 0) where
  -- what these value types name, a block of this type, or a type of this kind, is good
  abbrev pub GoodValues : List ValType → Type 0
  GoodValues tys = AllOf Good (items_of (events_of val_names tys))

  abbrev pub GoodBlock : InstrSeqType → Type 0
  GoodBlock ty = AllOf Good (items_of (block_names ty))

  abbrev pub GoodTypes : List ℕ → Type 0
  GoodTypes ns = AllOf Good (items_of (names_types ns))

  abbrev pub GoodKind : Kind → Type 0
  GoodKind k = GoodTypes (kind_names k)

  -- of each type of the table
  abbrev pub Closed : Table → Type 0
  Closed t = (id : ℕ) (x : TypeItem) → type_at t id ≡ Some x → GoodKind x.kind

  types_join : (ns ms : List ℕ) → GoodTypes ns → GoodTypes ms → GoodTypes (ns ++ ms)
  types_join [] ms h k = k
  types_join (n ∷ ns) ms h k = (h.0, types_join ns ms h.1 k)

  types_split : (ns ms : List ℕ) → GoodTypes (ns ++ ms) → GoodTypes ns × GoodTypes ms
  types_split [] ms h = (tt, h)
  types_split (n ∷ ns) ms h = let later = types_split ns ms h.1 in ((h.0, later.0), later.1)

  values_kind : (tys : List ValType) → GoodValues tys → GoodTypes (filter_map value_name tys)
  values_kind [] h = tt
  values_kind (I32 ∷ tys) h = values_kind tys h
  values_kind (I64 ∷ tys) h = values_kind tys h
  values_kind (F32 ∷ tys) h = values_kind tys h
  values_kind (F64 ∷ tys) h = values_kind tys h
  values_kind (V128 ∷ tys) h = values_kind tys h
  values_kind (Ref ty ∷ tys) h = of_heap (λ k. values_kind tys k) ty.heap_type h
    where
      of_heap : (GoodValues tys → GoodTypes (filter_map value_name tys)) → (heap : HeapType) → GoodValues (Ref (record { nullable = ty.nullable; heap_type = heap }) ∷ tys) → GoodTypes (filter_map value_name (Ref (record { nullable = ty.nullable; heap_type = heap }) ∷ tys))
      of_heap later (Abstract abstract) h = later h
      of_heap later (Shared abstract) h = later h
      of_heap later (Concrete id) h = (h.0, later h.1)
      of_heap later (Exact id) h = (h.0, later h.1)

  kind_values : (tys : List ValType) → GoodTypes (filter_map value_name tys) → GoodValues tys
  kind_values [] h = tt
  kind_values (I32 ∷ tys) h = kind_values tys h
  kind_values (I64 ∷ tys) h = kind_values tys h
  kind_values (F32 ∷ tys) h = kind_values tys h
  kind_values (F64 ∷ tys) h = kind_values tys h
  kind_values (V128 ∷ tys) h = kind_values tys h
  kind_values (Ref ty ∷ tys) h = of_heap (λ k. kind_values tys k) ty.heap_type h
    where
      of_heap : (GoodTypes (filter_map value_name tys) → GoodValues tys) → (heap : HeapType) → GoodTypes (filter_map value_name (Ref (record { nullable = ty.nullable; heap_type = heap }) ∷ tys)) → GoodValues (Ref (record { nullable = ty.nullable; heap_type = heap }) ∷ tys)
      of_heap later (Abstract abstract) h = later h
      of_heap later (Shared abstract) h = later h
      of_heap later (Concrete id) h = (h.0, later h.1)
      of_heap later (Exact id) h = (h.0, later h.1)

  pub function_good : (params results : List ValType) → GoodValues params → GoodValues results → GoodKind (function_kind params results)
  function_good params results h k =
      types_join (filter_map value_name params ++ filter_map value_name results) [] (types_join (filter_map value_name params) (filter_map value_name results) (values_kind params h) (values_kind results k)) tt

  pub entry_good : (results : List ValType) → GoodValues results → GoodKind (entry_kind results)
  entry_good results h = types_join (filter_map value_name results) [] (values_kind results h) tt

  -- ---- the types of a table

  form_of : (t : Table) → Closed t → (id : ℕ) (x : TypeItem) → type_at t id ≡ Some x → GoodTypes (form_names x.kind.form)
  form_of t closed id x at = (types_split (form_names x.kind.form) (option_to_list x.kind.supertype) (closed id x at)).0

  pub params_good : (t : Table) → Closed t → (id : ℕ) (ps : List ValType) → params_at t id ≡ Some ps → GoodValues ps
  params_good t closed id ps e = go (type_at t id) refl e
    where
      of_form : (form : Form) → GoodTypes (form_names form) → form_params form ≡ Some ps → GoodValues ps
      of_form (FunctionForm params results) h e = subst GoodValues (some_is params ps e) (kind_values params (types_split (filter_map value_name params) (filter_map value_name results) h).0)
      of_form (StructForm fields) h e = absurd cc
      of_form (ArrayForm field) h e = absurd cc

      go : (o : Option TypeItem) → type_at t id ≡ o → option_and_then (λ (item : TypeItem). form_params item.kind.form) o ≡ Some ps → GoodValues ps
      go None at e = absurd cc
      go (Some x) at e = of_form x.kind.form (form_of t closed id x at) e

  pub results_good : (t : Table) → Closed t → (id : ℕ) (rs : List ValType) → results_at t id ≡ Some rs → GoodValues rs
  results_good t closed id rs e = go (type_at t id) refl e
    where
      of_form : (form : Form) → GoodTypes (form_names form) → form_results form ≡ Some rs → GoodValues rs
      of_form (FunctionForm params results) h e = subst GoodValues (some_is results rs e) (kind_values results (types_split (filter_map value_name params) (filter_map value_name results) h).1)
      of_form (StructForm fields) h e = absurd cc
      of_form (ArrayForm field) h e = absurd cc

      go : (o : Option TypeItem) → type_at t id ≡ o → option_and_then (λ (item : TypeItem). form_results item.kind.form) o ≡ Some rs → GoodValues rs
      go None at e = absurd cc
      go (Some x) at e = of_form x.kind.form (form_of t closed id x at) e

-- ---- what value types and block types name are types: what makes those good serves

module _ (P Q : Item → Type 0) (f : (id : ℕ) → P (item spaces.«Type» id) → Q (item spaces.«Type» id)) where
  types_by : (ns : List ℕ) → GoodTypes P ns → GoodTypes Q ns
  types_by [] h = tt
  types_by (n ∷ ns) h = (f n h.0, types_by ns h.1)

  pub values_by : (tys : List ValType) → GoodValues P tys → GoodValues Q tys
  values_by tys h = kind_values Q tys (types_by (filter_map value_name tys) (values_kind P tys h))

  pub block_by : (ty : InstrSeqType) → GoodBlock P ty → GoodBlock Q ty
  block_by (Simple ty) h = of_written ty h
    where
      of_written : (o : Option ValType) → GoodBlock P (Simple o) → GoodBlock Q (Simple o)
      of_written None h = tt
      of_written (Some ty) h =
          subst (λ (es : List Event). AllOf Q (items_of es)) (append-nil (val_names ty))
          (values_by (ty ∷ []) (subst (λ (es : List Event). AllOf P (items_of es)) (sym (append-nil (val_names ty))) h))
  block_by (MultiValue id) h = (f id h.0, tt)
