-- Lemmas: a table of types that grows while bodies are read names good types alone.
use Rattle.std.specs.Prelude.{ℕ, zero, suc, ◌≡◌, ◌⊎◌, false, List, [], ◌∷◌, ◌++◌, Option, Some, None, MatchOption, slice_index_or, refl}
use Rattle.std.specs.Option.{option_map, option_or}
use Rattle.std.proofs.Common.{ap, sym, ◌∙◌, subst, inl, inr, append-nil}
use Rattle.walrus_named_bodies.specs.walrus_file_bodies.walrus_items_into.walrus_module_env.walrus_handler_types.walrus_body_steps.walrus_body_nesting.wasm_formats.declared.fault.Space.TheVariants as spaces
use Rattle.walrus_named_bodies.specs.walrus_file_bodies.walrus_items_into.walrus_module_bodies.walrus_body_trees.walrus_meaning.walrus_linked.walrus_module.walrus_builder.Built.{Seq}
use Rattle.walrus_forms.specs.Kinds.{Kind, function_kind}
use Rattle.walrus_forms.specs.declared.value.ValType.{ValType}
use Rattle.walrus_forms.proofs.EqLemmas.{same-kind-law}
use Rattle.walrus_forms.specs.Same.{same_kind}
use Rattle.walrus_function_types.specs.Growth.{Grows}
use Rattle.walrus_function_types.proofs.GrowthLemmas.{lives_on}
use Rattle.walrus_named_bodies.specs.walrus_file_bodies.walrus_items_into.walrus_module_env.walrus_handler_types.walrus_handler_laws.declared.handler.Handler.{Handler}
use Rattle.walrus_named_bodies.specs.walrus_file_bodies.walrus_items_into.walrus_module_env.walrus_handler_types.Giving.{Finds, FindsIf, Gives, GivesAt, GivesType, block_results, caught}
use Rattle.walrus_body_laws.specs.walrus_marks.walrus_instr.BlockTypes.{Makes, picked, short_form}
use Rattle.walrus_body_laws.specs.walrus_marks.walrus_instr.declared.seq.InstrSeqType.{InstrSeqType}
use Rattle.walrus_body_laws.specs.walrus_marks.walrus_instr.declared.seq.InstrSeqType.TheVariants.{Simple, MultiValue}
use Rattle.walrus_body_laws.specs.walrus_marks.Named.{items_of}
use Rattle.walrus_body_laws.specs.walrus_marks.walrus_walks.Events.{Event, val_names}
use Rattle.walrus_named_bodies.specs.walrus_file_bodies.walrus_items_into.walrus_tables_into.walrus_sections.walrus_roots.Items.{item}
use Rattle.walrus_named_bodies.specs.walrus_file_bodies.walrus_items_into.walrus_tables_into.walrus_sections.walrus_roots.declared.item.Item.{Item}
use Rattle.walrus_types.proofs.LawLemmas.{latest-law}
use Rattle.walrus_types.specs.Items.{Item as TypeItem}
use Rattle.walrus_types.specs.Table.{Adds, Merges, Table, equal_type, found_type, type_at}
use Rattle.walrus_types.specs.TypeLaws.{IsLatest}
use Rattle.walrus_parse_laws.proofs.ListLemmas.{AllOf, some_is}
use Rattle.walrus_parse_laws.proofs.LinkedValueLemmas.{Closed, GoodBlock, GoodKind, GoodValues, function_good, params_good, results_good}

one_more : (xs : List (Option TypeItem)) (y : TypeItem) (k : ℕ) (x : TypeItem) → slice_index_or (xs ++ Some y ∷ []) k None ≡ Some x → (slice_index_or xs k None ≡ Some x) ⊎ (y ≡ x)
one_more [] y zero x e = inr (some_is y x e)
one_more [] y (suc k) x e = absurd cc
one_more (z ∷ xs) y zero x e = inl e
one_more (z ∷ xs) y (suc k) x e = one_more xs y k x e

module _ (Good : Item → Type 0) where
  pub merges_closed : (kind : Kind) (id : ℕ) (t v : Table) → Merges kind id t v → GoodKind Good kind → Closed Good t → Closed Good v
  merges_closed kind id t v m good closed = go (equal_type kind t) m
    where
      go : (o : Option ℕ) → MatchOption o (Adds kind id t v) (λ found. (id ≡ found) × (v ≡ t)) → Closed Good v
      go (Some found) h = subst (Closed Good) (sym h.1) closed
      go None adds = λ k x at.
          elim (one_more t.types (record { id = id; kind = kind; name = None }) k x (sym (ap (λ (l : List (Option TypeItem)). slice_index_or l k None) adds.types) ∙ at)) as (λ _. GoodKind Good x.kind) [
            | inl before ↦ closed k x before
            | inr e ↦ subst (λ (z : TypeItem). GoodKind Good z.kind) e good
          ]

  -- ---- types of handlers

  one_good : (ty : ValType) → AllOf Good (items_of (val_names ty)) → GoodValues Good (ty ∷ [])
  one_good ty h = subst (λ (l : List Event). AllOf Good (items_of l)) (sym (append-nil (val_names ty))) h

  good_one : (ty : ValType) → GoodValues Good (ty ∷ []) → AllOf Good (items_of (val_names ty))
  good_one ty h = subst (λ (l : List Event). AllOf Good (items_of l)) (append-nil (val_names ty)) h

  caught_good : (t : Table) → Closed Good t → (tag : Option ℕ) (ps : List ValType) → caught t tag ≡ Some ps → GoodValues Good ps
  caught_good t closed (Some id) ps e = params_good Good t closed id ps e
  caught_good t closed None ps e = subst (GoodValues Good) (some_is [] ps e) tt

  pub block_good : (t : Table) → Closed Good t → (block : InstrSeqType) → GoodBlock Good block → (rs : List ValType) → block_results t block ≡ Some rs → GoodValues Good rs
  block_good t closed (Simple None) h rs e = subst (GoodValues Good) (some_is [] rs e) tt
  block_good t closed (Simple (Some ty)) h rs e = subst (GoodValues Good) (some_is (ty ∷ []) rs e) (one_good ty h)
  block_good t closed (MultiValue id) h rs e = results_good Good t closed id rs e

  made_closed : (params results : List ValType) (ty : InstrSeqType) (t v : Table) → GoodValues Good params → GoodValues Good results → Makes params results ty t v → Closed Good t → Closed Good v
  made_closed params results ty t v h k made closed = go (short_form params results) made
    where
      go : (o : Option InstrSeqType) → MatchOption o ((id : ℕ) × (ty ≡ MultiValue id) × Merges (function_kind params results) id t v) (λ short. (ty ≡ short) × (v ≡ t)) → Closed Good v
      go None m = merges_closed (function_kind params results) m.0 t v m.2 (function_good Good params results h k) closed
      go (Some short) m = subst (Closed Good) (sym m.1) closed

  finds_closed : (params results : List ValType) (t : Table) (ty : InstrSeqType) (v : Table) → GoodValues Good params → GoodValues Good results → Finds params results t ty v → Closed Good t → Closed Good v
  finds_closed params results t ty v h k finds closed = go (picked params results t) finds
    where
      go : (o : Option InstrSeqType) → MatchOption o (Makes params results ty t v) (λ found. (ty ≡ found) × (v ≡ t)) → Closed Good v
      go None made = made_closed params results ty t v h k made closed
      go (Some found) m = subst (Closed Good) (sym m.1) closed

  type_closed : (h : Handler) (was : InstrSeqType) (t : Table) (ty : InstrSeqType) (v : Table) → GoodBlock Good h.block → GivesType h was t ty v → Closed Good t → Closed Good v
  type_closed h was t ty v block gives closed = go (caught t h.tag_type) (block_results t h.block) refl refl gives
    where
      go : (ps rs : Option (List ValType)) → caught t h.tag_type ≡ ps → block_results t h.block ≡ rs → FindsIf ps rs was t ty v → Closed Good v
      go (Some ps) (Some rs) p r finds = finds_closed ps rs t ty v (caught_good t closed h.tag_type ps p) (block_good t closed h.block block rs r) finds closed
      go (Some ps) None p r same = subst (Closed Good) (sym same.1) closed
      go None (Some rs) p r same = subst (Closed Good) (sym same.1) closed
      go None None p r same = subst (Closed Good) (sym same.1) closed

  at_closed : (k : ℕ) (h : Option Handler) (b : List Seq) (t : Table) (c : List Seq) (v : Table) → ((x : Handler) → h ≡ Some x → GoodBlock Good x.block) → GivesAt k h b t c v → Closed Good t → Closed Good v
  at_closed k None b t c v blocks (is, kept) closed = subst (Closed Good) (sym kept) closed
  at_closed k (Some h) b t c v blocks (x, found, ty, gives, is) closed = type_closed h x.ty t ty v (blocks h refl) gives closed

  pub gives_closed : (told : ℕ → Option Handler) (ks : List ℕ) (b : List Seq) (t : Table) (c : List Seq) (v : Table) → ((k : ℕ) (x : Handler) → told k ≡ Some x → GoodBlock Good x.block)
      → Gives told ks b t c v → Closed Good t → Closed Good v
  gives_closed told [] b t c v blocks gives closed = subst (Closed Good) (sym gives.1) closed
  gives_closed told (k ∷ ks) b t c v blocks (mid, u, one, rest) closed =
      gives_closed told ks mid u c v blocks rest (at_closed k (told k) b t mid u (λ x e. blocks k x e) one closed)

  -- ---- what is picked

  module _ (final : Table) (typed : (id : ℕ) (x : TypeItem) → type_at final id ≡ Some x → x.kind.entry ≡ false → Good (item spaces.«Type» id)) where
    found_good : (t : Table) → Grows t final → (ps rs : List ValType) (id : ℕ) → found_type ps rs t ≡ Some id → Good (item spaces.«Type» id)
    found_good t grows ps rs id e =
        let wanted = function_kind ps rs in
        let last : IsLatest (λ x. same_kind x.1.kind wanted) t id =
        subst (λ (o : Option ℕ). MatchOption o ((other : ℕ) (x : TypeItem) → type_at t other ≡ Some x → same_kind x.kind wanted ≡ false) (IsLatest (λ x. same_kind x.1.kind wanted) t)) e (latest-law t (λ x. same_kind x.1.kind wanted)) in
        typed id last.item (lives_on t final grows id last.item last.live) (ap (λ (k : Kind). k.entry) ((same-kind-law last.item.kind wanted).0 last.passes))

    pub picked_good : (t : Table) → Grows t final → (ps rs : List ValType) (ty : InstrSeqType) → picked ps rs t ≡ Some ty → GoodValues Good rs → GoodBlock Good ty
    picked_good t grows ps rs ty e good = go (short_form ps rs) refl e
      where
        found : (o : Option ℕ) → found_type ps rs t ≡ o → option_or None (option_map MultiValue o) ≡ Some ty → GoodBlock Good ty
        found None is e = absurd cc
        found (Some id) is e = subst (GoodBlock Good) (some_is (MultiValue id) ty e) (found_good t grows ps rs id is, tt)

        short : (ps rs : List ValType) (s : InstrSeqType) → short_form ps rs ≡ Some s → GoodValues Good rs → GoodBlock Good s
        short [] [] s e h = subst (GoodBlock Good) (some_is (Simple None) s e) tt
        short [] (v ∷ []) s e h = subst (GoodBlock Good) (some_is (Simple (Some v)) s e) (good_one v h)
        short [] (v ∷ (w ∷ rs)) s e h = absurd cc
        short (p ∷ ps) rs s e h = absurd cc

        go : (o : Option InstrSeqType) → short_form ps rs ≡ o → option_or o (option_map MultiValue (found_type ps rs t)) ≡ Some ty → GoodBlock Good ty
        go None is e = found (found_type ps rs t) refl e
        go (Some s) is e = subst (GoodBlock Good) (some_is s ty e) (short ps rs s is good)
