-- The types of a function that is built in the place of another: what was linked stays so.
use Rattle.std.proofs.Common.{◌≡◌, ◌∙◌, ℕ, true, false, List, [], ◌∷◌, Option, Some, Contains, sym, ap, subst, arith}
use Rattle.std.specs.Option.{option_to_list}
use Rattle.std.proofs.lemmas.List.{append-nil}
use Rattle.std.proofs.lemmas.List.Elements.{Contains-append_left}
use Rattle.walrus_forms.specs.Forms.{Form, FunctionForm, StructForm, ArrayForm, form_names, params_of, results_of}
use Rattle.walrus_forms.specs.Kinds.{Kind, kind_names, function_kind, entry_kind}
use Rattle.walrus_types.specs.Items.{Item as TypeItem}
use Rattle.walrus_types.specs.Pairs.{MergesBoth}
use Rattle.walrus_types.specs.Table.{Table, type_at}
use Rattle.wasm_formats.specs.declared.fault.Space.TheVariants as spaces
use Rattle.walrus_linked.specs.walrus_module.Parts.{Module}
use Rattle.walrus_linked.specs.walrus_module.Replaced.{params_at, results_at, type_params, type_results}
use Rattle.walrus_roots.specs.declared.item.Item.{Item}
use Rattle.walrus_roots.specs.Items.{item}
use Rattle.walrus_marks.specs.Named.{items_of}
use Rattle.walrus_linked.specs.walrus_module.Items.{Lives, LivesIn}
use Rattle.walrus_linked.specs.Names.{named_by, type_names}
use Rattle.walrus_linked.specs.Linked.{IsLinked}
use Rattle.walrus_module_laws.specs.Edits.{KindsNameLive}
use Rattle.walrus_module_laws.proofs.NameLemmas.{named_type, the_one}
use Rattle.walrus_module_laws.proofs.GrownTypes.{merged, in_space, types_grown, type_of_item, item_of_type}

no_name : {P : Type 0} (name : ℕ) → Contains [] name → P
no_name name (k, less, at) = absurd (omega (arith, less))

-- what a function type of the parameters and results of a form names, the form names
form_has : (form : Form) (name : ℕ) → Contains (kind_names (function_kind (params_of form) (results_of form))) name → Contains (form_names form) name
form_has (FunctionForm params results) name has = let C : List ℕ → Type 0 = λ ns. Contains ns name in subst C (append-nil (form_names (FunctionForm params results))) has
form_has (StructForm fields) name has = no_name name has
form_has (ArrayForm field) name has = no_name name has

-- the module with these types is linked, has what lived, and a type of this kind under the id
pub record IsGrown (m : Module) (t : Table) (kind : Kind) (id : ℕ) : Type 0 where
  pub linked : IsLinked (record m { types = t })
  pub lives : (y : Item) → Lives m y → Lives (record m { types = t }) y
  pub ty : TypeItem
  pub live : type_at t id ≡ Some ty
  pub kind_is : ty.kind ≡ kind

module _ (m : Module) (l : IsLinked m) (ty : ℕ) (lives : LivesIn m spaces.Type ty) where
  abbrev kind_of : Option TypeItem → Kind
  kind_of o = function_kind (type_params o) (type_results o)

  names_live : (name : ℕ) → Contains (kind_names (kind_of (type_at m.types ty))) name → LivesIn m spaces.Type name
  names_live name has =
      let x = type_of_item (type_at m.types ty) lives in
      let K : Option TypeItem → Type 0 = λ o. Contains (kind_names (kind_of o)) name in
      let N : Option TypeItem → Type 0 = λ o. Contains (items_of (named_by type_names o)) (item spaces.Type name) in
      let named = Contains-append_left (form_names x.0.kind.form) (option_to_list x.0.kind.supertype) name (form_has x.0.kind.form name (subst K x.1 has)) in
      l.named (item spaces.Type ty) (item spaces.Type name) lives (subst N (sym x.1) (named_type (kind_names x.0.kind) name named))

  pub grown : (t : Table) (id entry : ℕ) → MergesBoth (function_kind (params_at m.types ty) (results_at m.types ty)) id (entry_kind (results_at m.types ty)) entry m.types t
      → IsGrown m t (function_kind (params_at m.types ty) (results_at m.types ty)) id
  grown t id entry h =
      let kind = function_kind (params_at m.types ty) (results_at m.types ty) in
      let block = entry_kind (results_at m.types ty) in
      let b = h.between in
      let first = merged kind id m.types b h.first_merges in
      let second = merged block entry b t h.second_merges in
      let m1 : Module = record m { types = b } in
      let kept : (k : ℕ) → LivesIn m spaces.Type k → LivesIn m1 spaces.Type k = λ k x. let a = type_of_item (type_at m.types k) x in item_of_type (type_at b k) a.0 (first.0.kept k a.0 a.1) a.2 in
      let new : KindsNameLive m1 (kind ∷ []) = λ k is plain name has. let N : Kind → Type 0 = λ x. Contains (kind_names x) name in kept name (names_live name (subst N (sym (the_one kind k is)) has)) in
      let none : KindsNameLive (record m { types = t }) (block ∷ []) = λ k is plain name has. let entry : true ≡ false = ap (λ (x : Kind). x.entry) (the_one block k is) ∙ plain in absurd cc in
      record {
        linked = types_grown m1 t (block ∷ []) second.0 none (types_grown m b (kind ∷ []) first.0 new l);
        lives = λ y x. (in_space m1 t (block ∷ []) second.0 none y.space).lives_kept y.id ((in_space m b (kind ∷ []) first.0 new y.space).lives_kept y.id x);
        ty = first.1.ty;
        live = second.0.kept id first.1.ty first.1.live;
        kind_is = first.1.kind_is;
      }
