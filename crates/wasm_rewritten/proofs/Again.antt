-- Lemmas: what is reached in a module whose bodies are normal forms is reached in its normal form, types aside.
use Rattle.std.specs.Prelude.{ℕ, ◌≡◌, Bool, List, [], ◌∷◌, ◌++◌, map, Contains, MatchOption, Option, Some, None, refl}
use Rattle.std.specs.List.{flat_map}
use Rattle.std.specs.Option.{option_map, option_to_list}
use Rattle.std.proofs.Common.{ap, sym, ◌∙◌, subst, inl, inr}
use Rattle.walrus_forms.specs.declared.value.ValType.{ValType}
use Rattle.walrus_forms.specs.Records.{TypeGroup}
use Rattle.walrus_forms.specs.Values.{ref_name}
use Rattle.walrus_forms.specs.Renaming.{renamed_ref, renamed_value}
use Rattle.wasm_features.specs.declared.WasmFeatures.{WasmFeatures}
use Rattle.wasm_formats.specs.declared.fault.Space.{Space as FileSpace}
use Rattle.wasm_formats.specs.declared.fault.Space.TheVariants as spaces
use Rattle.wasm_operators.specs.declared.block_type.BlockType.{BlockType}
use Rattle.wasm_operators.specs.Items.{Types}
use Rattle.wasm_operators.specs.NameLaws.{NamesAreRenamed}
use Rattle.wasm_operators.specs.Names.{block_names, operator_names}
use Rattle.wasm_grammar.specs.Modules.{Item, Expr, Origin, Imported, Own, Placed, Body, Function, Table, Memory, Global, Mode, Passive, Declared, Active, Elements, Functions as Listed, Expressions, Element, Segment, Module}
use Rattle.wasm_body_grammar.specs.Codes.{param_count}
use Rattle.wasm_body_grammar.specs.Rules.{Around}
use Rattle.wasm_references.specs.References.{Numbered, RefersIn, HasData, HasElement, IsActiveIn, body_items, element_items, expr_items, function_items, global_items, held_items, init_items, item, mode_items, named_by, names_items, origin_items, ref_items, segment_items, slot, table_items, tag_items}
use Rattle.wasm_references.specs.Roots.{Root, exports, starts, is_active, fills_import, fills_any, declares, is_pushed}
use Rattle.wasm_references.specs.Kept.{IsReached, refers, root}
use Rattle.wasm_normal_form.specs.Bodies.{new_number, used_keys}
use Rattle.wasm_normal_form.specs.Laws.{NormalNests, TreeIsOne}
use Rattle.wasm_normal_form.specs.Normal.{normal_ops}
use Rattle.wasm_ruled_normal.specs.Normal.{text_of}
use Rattle.wasm_run_names.specs.Picks.{block_pick}
use Rattle.wasm_normal_modules.specs.Modules.{by_types, each, normal_function, normal_module, normal_origin, retyped_element, retyped_expr, retyped_global, retyped_items, retyped_mode, retyped_origin, retyped_segment, retyped_table, retyped_tag}
use Rattle.wasm_normal_modules.proofs.Slots.{slot_sent}
use Rattle.wasm_part.specs.Seen.{seen_as}
use Rattle.wasm_rewritten.proofs.Goes.{Goes, IsNoType, blocks_go, expr_goes, exprs_go, goes_at, init_goes, ref_first, types_only, value_first}
use Rattle.wasm_rewritten.proofs.LocalsNamed.{Among, among, among_left, among_right, among_split, contained}
use Rattle.wasm_rewritten.proofs.Twice.{IsNormalCode, ops_again, types_stay}

-- each body of the module is a normal form, renamed
abbrev pub BodiesAreNormal : Module → Type 0
BodiesAreNormal m = (k : ℕ) (f : Function) → slot m.functions k ≡ Some f → (x : Body) → f.origin ≡ Own x → IsNormalCode (map (λ (o : Placed). o.op) x.operators)

-- each item of the one list, types aside, is in the other
abbrev Carries : List Item → List Item → Type 0
Carries xs ys = (y : Item) → IsNoType y → Among y xs → Among y ys

carries_both : (xs others ys zs : List Item) → Carries xs others → Carries ys zs → Carries (xs ++ ys) (others ++ zs)
carries_both xs others ys zs f g y no_type h = elim (among_split xs ys y h) [
  | inl i ↦ among_left others zs y (f y no_type i)
  | inr i ↦ among_right others zs y (g y no_type i)
]

-- ---- slots

match_sent : {A : Type 0} (P Q : A → Type 0) (q : A → A) (xs : List (Option A)) (k : ℕ) → ((x : A) → P x → Q (q x)) → MatchOption (slot xs k) ⊥ P → MatchOption (slot (each q xs) k) ⊥ Q
match_sent {A} P Q q xs k f h = subst (λ (o : Option A). MatchOption o ⊥ Q) (sym (slot_sent q xs k)) (go (slot xs k) h)
  where
    go : (o : Option A) → MatchOption o ⊥ P → MatchOption (option_map q o) ⊥ Q
    go None h = absurd h
    go (Some x) h = f x h

match_so : {A : Type 0} (P Q : A → Type 0) (o : Option A) → ((x : A) → P x → Q x) → MatchOption o ⊥ P → MatchOption o ⊥ Q
match_so P Q None f h = absurd h
match_so P Q (Some x) f h = f x h

named_sent : {A : Type 0} (items new : A → List Item) (q : A → A) (xs : List (Option A)) (k : ℕ) → ((x : A) → slot xs k ≡ Some x → Carries (items x) (new (q x))) → (y : Item) → IsNoType y
    → Contains (named_by items (slot xs k)) y → Contains (named_by new (slot (each q xs) k)) y
named_sent {A} items new q xs k f y no_type c = subst (λ (o : Option A). Contains (named_by new o) y) (sym (slot_sent q xs k)) (go (slot xs k) (λ x e. f x e) c)
  where
    go : (o : Option A) → ((x : A) → o ≡ Some x → Carries (items x) (new (q x))) → Contains (named_by items o) y → Contains (named_by new (option_map q o)) y
    go None f c = absurd (among [] y c)
    go (Some x) f c = contained (new (q x)) y (f x refl y no_type (among (items x) y c))

slot_so : {A : Type 0} (q : A → A) (xs : List (Option A)) (k : ℕ) (x : A) → slot xs k ≡ Some x → slot (each q xs) k ≡ Some (q x)
slot_so {A} q xs k x e = slot_sent q xs k ∙ ap (λ (o : Option A). option_map q o) e

-- ---- records

module _ (renamed : NamesAreRenamed) (r : ℕ → ℕ) where
  by_goes : (xs ys : List Item) → Goes (by_types r) xs ys → Carries xs ys
  by_goes xs ys h y no_type a = subst (λ (z : Item). Among z ys) (types_stay r y.space y.number no_type) (goes_at (by_types r) xs ys y h a no_type)

  expr_carries : (e : Expr) → Carries (expr_items e) (expr_items (retyped_expr r e))
  expr_carries e = by_goes (expr_items e) (expr_items (retyped_expr r e)) (expr_goes (by_types r) renamed e)

  table_carries : (t : Table) → Carries (table_items t) (table_items (retyped_table r t))
  table_carries t =
      by_goes (table_items t) (table_items (retyped_table r t))
      (ref_first (by_types r) renamed t.element (renamed_ref r t.element) (init_items t.init) (init_items (option_map (retyped_expr r) t.init)) (init_goes (by_types r) renamed t.init))

  own_carries : (o : Origin Expr) → Goes (by_types r) (origin_items expr_items o) (origin_items expr_items (retyped_origin r o))
  own_carries (Imported i) = tt
  own_carries (Own e) = expr_goes (by_types r) renamed e

  global_carries : (g : Global) → Carries (global_items g) (global_items (retyped_global r g))
  global_carries g =
      by_goes (global_items g) (global_items (retyped_global r g))
      (value_first (by_types r) renamed g.ty (renamed_value r g.ty) (origin_items expr_items g.origin) (origin_items expr_items (retyped_origin r g.origin)) (own_carries g.origin))

  mode_carries : (space : FileSpace) (mode : Mode) → Carries (mode_items space mode) (mode_items space (retyped_mode r mode))
  mode_carries space (Active n offset) y no_type (inl e) = inl e
  mode_carries space (Active n offset) y no_type (inr h) = inr (expr_carries offset y no_type h)
  mode_carries space Passive y no_type h = h
  mode_carries space Declared y no_type h = h

  held_carries : (items : Elements) → Carries (held_items items) (held_items (retyped_items r items))
  held_carries (Listed ns) y no_type h = h
  held_carries (Expressions ty es) y no_type h =
      carries_both (ref_items ty) (ref_items (renamed_ref r ty)) (flat_map expr_items es) (flat_map expr_items (map (retyped_expr r) es)) named
      (by_goes (flat_map expr_items es) (flat_map expr_items (map (retyped_expr r) es)) (exprs_go (by_types r) renamed es)) y no_type h
    where
      named : Carries (ref_items ty) (ref_items (renamed_ref r ty))
      named y no_type h = absurd (no_type (types_only (option_to_list (ref_name ty)) y h))

  element_carries : (e : Element) → Carries (element_items e) (element_items (retyped_element r e))
  element_carries e =
      carries_both (mode_items spaces.Table e.mode) (mode_items spaces.Table (retyped_mode r e.mode)) (held_items e.items) (held_items (retyped_items r e.items))
      (mode_carries spaces.Table e.mode) (held_carries e.items)

  still_active : (k : ℕ) (mode : Mode) → IsActiveIn k mode → IsActiveIn k (retyped_mode r mode)
  still_active k (Active into offset) h = h
  still_active k Passive h = h
  still_active k Declared h = h

  -- ---- bodies

  module _ (one : TreeIsOne) (nests : NormalNests) (place : Option ℕ → ℕ) (a : Around) where
    origin_carries : (locals others : ℕ → Option ValType) (parts tys : List BlockType) (params : ℕ) (o : Origin Body) → ((x : Body) → o ≡ Own x → IsNormalCode (map (λ (o : Placed). o.op) x.operators))
        → Carries (origin_items (λ (b : Body). body_items locals b.operators parts) o) (origin_items (λ (b : Body). body_items others b.operators tys) (normal_origin place a r params o))
    origin_carries locals others parts tys params (Imported i) code y no_type h = absurd h
    origin_carries locals others parts tys params (Own x) code y no_type h =
        let number : ℕ → ℕ = λ n. new_number params (used_keys params (map (renamed_value (by_types r Types)) x.locals) (normal_ops (block_pick a) (text_of x.operators))) n in
        elim (among_split (flat_map (λ (o : Placed). names_items locals (operator_names o.op)) x.operators) (flat_map (λ (ty : BlockType). names_items locals (block_names ty)) parts) y h) [
          | inl i ↦ among_left _ (flat_map (λ (ty : BlockType). names_items others (block_names ty)) tys) y (ops_again one nests renamed place number r (block_pick a) locals others x.operators (code x refl) y no_type i)
          | inr i ↦ absurd (goes_at (by_types r) (flat_map (λ (ty : BlockType). names_items locals (block_names ty)) parts) [] y (blocks_go (by_types r) locals parts []) i no_type)
        ]

    function_carries : (locals others : ℕ → Option ValType) (parts tys : List BlockType) (f : Function) → ((x : Body) → f.origin ≡ Own x → IsNormalCode (map (λ (o : Placed). o.op) x.operators))
        → Carries (function_items locals parts f) (function_items others tys (normal_function place a r f))
    function_carries locals others parts tys f code y no_type (inl e) = absurd (no_type (sym (ap (λ (i : Item). i.space) e)))
    function_carries locals others parts tys f code y no_type (inr h) = inr (origin_carries locals others parts tys (param_count a.filled f.ty) f.origin code y no_type h)

    -- ---- chains

    module _ (features : WasmFeatures) (groups : List TypeGroup) (keep : Bool) (m : Module) (bodies : BodiesAreNormal m) where
      abbrev S : Numbered
      S = seen_as features m

      abbrev N : Module
      N = normal_module place a r groups m

      abbrev T : Numbered
      T = seen_as features N

      abbrev Reached : Item → Type 0
      Reached y = IsReached T keep [] y

      no_own : {A : Type 0} (e : ℕ) → Contains [] e → A
      no_own e c = absurd (among [] e c)

      step : (space : FileSpace) (k : ℕ) (y : Item) → RefersIn S space k y → (IsNoType (item space k) → Reached (item space k)) → IsNoType y → Reached y
      step spaces.«Type» k y (group, kind, is, inl c) from no_type = absurd (no_type (types_only _ y (among _ y c)))
      step spaces.«Type» k y (group, kind, is, inr c) from no_type = absurd (no_type (types_only group.1 y (among _ y c.1)))
      step spaces.Function k y c from no_type =
          refers (from (λ e. cc)) (named_sent (function_items (S.local_type k) (S.parts k)) (function_items (T.local_type k) (T.parts k)) (normal_function place a r) m.functions k
          (λ f at. function_carries (S.local_type k) (T.local_type k) (S.parts k) (T.parts k) f (bodies k f at)) y no_type c)
      step spaces.Table k y (inl c) from no_type = refers (from (λ e. cc)) (inl (named_sent table_items table_items (retyped_table r) m.tables k (λ t at. table_carries t) y no_type c))
      step spaces.Table k y (inr c) from no_type =
          refers (from (λ e. cc)) (inr (match_sent (λ (t : Table). HasElement S k y) (λ (t : Table). HasElement T k y) (retyped_table r) m.tables k (λ t h. elements_so h) c))
        where
          elements_so : HasElement S k y → HasElement T k y
          elements_so (e, is, inl active) =
              (e, is, inl (match_sent (λ (x : Element). IsActiveIn k x.mode) (λ (x : Element). IsActiveIn k x.mode) (retyped_element r) m.elements e (λ x h. still_active k x.mode h) active))
          elements_so (e, is, inr own) = no_own e own.0
      step spaces.Memory k y c from no_type = refers (from (λ e. cc)) (match_so (λ (t : Memory). HasData S k y) (λ (t : Memory). HasData T k y) (slot m.memories k) (λ t h. data_so h) c)
        where
          data_so : HasData S k y → HasData T k y
          data_so (d, is, inl active) =
              (d, is, inl (match_sent (λ (x : Segment). IsActiveIn k x.mode) (λ (x : Segment). IsActiveIn k x.mode) (retyped_segment r) m.segments d (λ x h. still_active k x.mode h) active))
          data_so (d, is, inr own) = no_own d own.0
      step spaces.Global k y c from no_type = refers (from (λ e. cc)) (named_sent global_items global_items (retyped_global r) m.globals k (λ g at. global_carries g) y no_type c)
      step spaces.Tag k y c from no_type =
          refers (from (λ e. cc)) (named_sent tag_items tag_items (retyped_tag r) m.tags k (λ t at z other h. absurd (other (types_only (t.ty ∷ []) z h))) y no_type c)
      step spaces.Element k y c from no_type = refers (from (λ e. cc)) (named_sent element_items element_items (retyped_element r) m.elements k (λ e at. element_carries e) y no_type c)
      step spaces.Data k y c from no_type = refers (from (λ e. cc)) (named_sent segment_items segment_items (retyped_segment r) m.segments k (λ x at. mode_carries spaces.Memory x.mode) y no_type c)
      step spaces.Local k y c from no_type = absurd c
      step spaces.Label k y c from no_type = absurd c

      rooted : (y : Item) → Root m keep [] y → Reached y
      rooted y (exports e export at) = root (exports e export at)
      rooted y (starts f at) = root (starts f at)
      rooted y (is_active d memory offset segment at mode) =
          root (is_active d memory (retyped_expr r offset) (retyped_segment r segment) (slot_so (retyped_segment r) m.segments d segment at) (ap (retyped_mode r) mode))
      rooted y (fills_import e t offset segment table at mode is imported) =
          root (fills_import e t (retyped_expr r offset) (retyped_element r segment) (retyped_table r table) (slot_so (retyped_element r) m.elements e segment at) (ap (retyped_mode r) mode)
          (slot_so (retyped_table r) m.tables t table is) imported)
      rooted y (fills_any e t offset segment all at mode) =
          root (fills_any e t (retyped_expr r offset) (retyped_element r segment) all (slot_so (retyped_element r) m.elements e segment at) (ap (retyped_mode r) mode))
      rooted y (declares e segment at mode) = root (declares e (retyped_element r segment) (slot_so (retyped_element r) m.elements e segment at) (ap (retyped_mode r) mode))
      rooted y (is_pushed x c) = absurd (among [] x c)

      pub still_reached : {y : Item} → IsReached S keep [] y → IsNoType y → Reached y
      still_reached (root {x} k) no_type = rooted x k
      still_reached (refers {x} {y} h c) no_type = step x.space x.number y c (λ named. still_reached h named) no_type
