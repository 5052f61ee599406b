-- Lemmas: the types that bodies add to a file's name none past their own groups, as they name types of the file alone.
use Rattle.std.specs.Prelude.{ℕ, ◌≡◌, ◌≤◌, false, List, [], ◌∷◌, ◌++◌, length, map, Option, Some, None, MatchOption, refl}
use Rattle.std.specs.List.{filter_map, flat_map}
use Rattle.std.specs.Option.{option_and_then, option_to_list}
use Rattle.std.proofs.Common.{ap, sym, ◌∙◌, subst, inl, arith}
use Rattle.std.proofs.lemmas.List.{length-append}
use Rattle.walrus_forms.specs.Forms.{Form, FunctionForm, StructForm, ArrayForm, form_names}
use Rattle.walrus_forms.specs.Kinds.{Kind, entry_kind, function_kind, kind_names}
use Rattle.walrus_forms.specs.Values.{value_name}
use Rattle.walrus_forms.specs.declared.value.ValType.{ValType}
use Rattle.walrus_function_types.specs.FunctionTypes.{form_results, results_at}
use Rattle.walrus_function_types.specs.Growth.{Grows}
use Rattle.walrus_function_types.proofs.GrowthLemmas.{grows_on}
use Rattle.walrus_parse_laws.specs.walrus_named_bodies.walrus_file_bodies.walrus_items_into.walrus_module_env.walrus_handler_types.Giving.{Finds, FindsIf, Gives, GivesAt, block_results, caught, tree_handlers}
use Rattle.walrus_parse_laws.specs.walrus_named_bodies.walrus_file_bodies.walrus_items_into.walrus_module_env.walrus_handler_types.walrus_handler_laws.Handlers.{told_by, tree_ids}
use Rattle.walrus_parse_laws.specs.walrus_named_bodies.walrus_file_bodies.walrus_items_into.walrus_module_env.walrus_handler_types.walrus_handler_laws.declared.handler.Handler.{Handler}
use Rattle.walrus_parse_laws.proofs.walrus_named_bodies.walrus_handler_types.Growing.{at_grows, function_results_grow, given_types_grow, params_grow}
use Rattle.walrus_parse_laws.specs.Added.{Signature, kind_of}
use Rattle.walrus_parse_laws.specs.Files.{sent}
use Rattle.walrus_parse_laws.specs.Groups.{handlers_in}
use Rattle.walrus_parse_laws.specs.Handlers.{signature_of, signatures}
use Rattle.walrus_parse_laws.proofs.ListLemmas.{AllOf, all_join, some_is}
use Rattle.walrus_parse_laws.specs.walrus_meaning.walrus_linked.walrus_body_writer.walrus_pairing.wasm_operators.wasm_features.declared.WasmFeatures.{WasmFeatures}
use Rattle.walrus_parse_laws.specs.walrus_meaning.walrus_linked.walrus_body_writer.walrus_pairing.walrus_instr.BlockTypes.{Makes, picked, short_form}
use Rattle.walrus_parse_laws.specs.walrus_meaning.walrus_linked.walrus_body_writer.walrus_pairing.walrus_instr.declared.seq.InstrSeqType.{InstrSeqType}
use Rattle.walrus_parse_laws.specs.walrus_meaning.walrus_linked.walrus_body_writer.walrus_pairing.walrus_instr.declared.seq.InstrSeqType.TheVariants.{Simple, MultiValue}
use Rattle.walrus_parse_laws.specs.walrus_meaning.walrus_linked.walrus_module.walrus_builder.Built.{Seq, contents, seq_of}
use Rattle.walrus_parse_laws.specs.walrus_meaning.walrus_linked.walrus_module_items.Functions.{type_of}
use Rattle.walrus_parse_laws.specs.walrus_named_bodies.walrus_file_bodies.Read.{steps_grow}
use Rattle.walrus_parse_laws.specs.walrus_named_bodies.walrus_file_bodies.walrus_items_into.walrus_functions_into.declared.bodies.FunctionBody.{FunctionBody}
use Rattle.walrus_parse_laws.specs.walrus_named_bodies.walrus_file_bodies.walrus_items_into.walrus_module_env.Env.{tag_type_at}
use Rattle.walrus_parse_laws.specs.walrus_named_bodies.walrus_file_bodies.walrus_module_bodies.Steps.{State, Steps}
use Rattle.walrus_parse_laws.specs.walrus_named_bodies.walrus_file_bodies.walrus_module_bodies.declared.file.FileEnv.{FileEnv}
use Rattle.walrus_pass_laws.specs.walrus_refusals.Written.{MayName}
use Rattle.walrus_types.specs.Items.{Group, Item}
use Rattle.walrus_types.specs.Table.{Adds, Merges, Table, equal_type, next_id, type_at}
use Rattle.walrus_parse_gc_laws.proofs.FileLemmas.{renamed_so}
use Rattle.walrus_parse_gc_laws.proofs.ServedNameLemmas.{Named, NamesSo, NewName, all_left, all_right, all_up, more_named}

-- by how many types the file has
module _ (own : ℕ) where
  abbrev Low : ℕ → Type 0
  Low name = name ≤ own

  -- types that stand behind those of the file name those, or the first type
  pub record Behind (t : Table) : Type 0 where
    pub many : own ≤ next_id t
    pub names : Named (λ id name. Low name × MayName t id name) t

  -- ---- one more type

  adds_behind : (kind : Kind) (id : ℕ) (t u : Table) → Adds kind id t u → NamesSo Low kind → Behind t → Behind u
  adds_behind kind id t u adds low h = record {
    many = let more = ap length adds.types ∙ length-append t.types (Some (let y : Item = record { id = id; kind = kind; name = None } in y) ∷ []) in let le = h.many in omega (arith, more, le);
    names = more_named Low Low (λ name le. le) id (kind ∷ []) (Some (let g : Group = record { explicit = false; types = id ∷ [] } in g) ∷ []) t u adds.types adds.groups
        (all_up Low (NewName Low (next_id t) 1 u) (λ name le. (le, λ k ge less. inl (let many = h.many in omega (arith, le, ge, many)))) (kind_names kind) low, tt) h.names;
  }

  merges_behind : (kind : Kind) (id : ℕ) (t u : Table) → Merges kind id t u → NamesSo Low kind → Behind t → Behind u
  merges_behind kind id t u m low h = go (equal_type kind t) m
    where
      go : (o : Option ℕ) → MatchOption o (Adds kind id t u) (λ found. (id ≡ found) × (u ≡ t)) → Behind u
      go (Some found) e = subst Behind (sym e.1) h
      go None adds = adds_behind kind id t u adds low h

  -- ---- the type of a body's own block

  entry_low : (form : Form) (supertype : Option ℕ) (results : List ValType) → form_results form ≡ Some results → AllOf Low (form_names form ++ option_to_list supertype) → NamesSo Low (entry_kind results)
  entry_low (FunctionForm ps rs) supertype results e h =
      let both = all_left Low (filter_map value_name ps ++ filter_map value_name rs) (option_to_list supertype) h in
      let own_results = all_join Low (filter_map value_name rs) [] (all_right Low (filter_map value_name ps) (filter_map value_name rs) both) tt in
      subst (λ (l : List ValType). NamesSo Low (entry_kind l)) (some_is rs results e) own_results
  entry_low (StructForm fields) supertype results e h = absurd cc
  entry_low (ArrayForm field) supertype results e h = absurd cc

  results_low : (t : Table) → Behind t → (id : ℕ) (results : List ValType) → results_at t id ≡ Some results → NamesSo Low (entry_kind results)
  results_low t h id results e = go (type_at t id) refl e
    where
      go : (o : Option Item) → type_at t id ≡ o → option_and_then (λ (x : Item). form_results x.kind.form) o ≡ Some results → NamesSo Low (entry_kind results)
      go None is e = absurd cc
      go (Some x) is e = entry_low x.kind.form x.kind.supertype results e (all_up (λ name. Low name × MayName t id name) Low (λ name p. p.0) (kind_names x.kind) (h.names id x is))

  -- ---- the types of handlers

  abbrev pub SignatureLow : Signature → Type 0
  SignatureLow s = NamesSo Low (kind_of s)

  pub sent_low : (r : ℕ → ℕ) → ((n : ℕ) → r n ≤ own) → (ss : List Signature) → AllOf SignatureLow (map (sent r) ss)
  sent_low r h [] = tt
  sent_low r h (s ∷ ss) = (renamed_so Low r h (kind_of s), sent_low r h ss)

  made_behind : (ps rs : List ValType) (ty : InstrSeqType) (t u : Table) → Makes ps rs ty t u → NamesSo Low (function_kind ps rs) → Behind t → Behind u
  made_behind ps rs ty t u makes low h = by (short_form ps rs) makes
    where
      by : (o : Option InstrSeqType) → MatchOption o ((id : ℕ) × (ty ≡ MultiValue id) × Merges (function_kind ps rs) id t u) (λ short. (ty ≡ short) × (u ≡ t)) → Behind u
      by None m = merges_behind (function_kind ps rs) m.0 t u m.2 low h
      by (Some short) e = subst Behind (sym e.1) h

  found_behind : (ps rs : List ValType) (ty : InstrSeqType) (t u : Table) → Finds ps rs t ty u → NamesSo Low (function_kind ps rs) → Behind t → Behind u
  found_behind ps rs ty t u f low h = by (picked ps rs t) f
    where
      by : (o : Option InstrSeqType) → MatchOption o (Makes ps rs ty t u) (λ found. (ty ≡ found) × (u ≡ t)) → Behind u
      by None makes = made_behind ps rs ty t u makes low h
      by (Some found) e = subst Behind (sym e.1) h

  module _ (final : Table) where
    -- what a handler takes and gives names types of the file
    abbrev pub FitsFile : Option Handler → Type 0
    FitsFile None = Unit {0}
    FitsFile (Some x) = (ps rs : List ValType) → caught final x.tag_type ≡ Some ps → block_results final x.block ≡ Some rs → NamesSo Low (function_kind ps rs)

    caught_later : (t : Table) → Grows t final → (tag : Option ℕ) (l : List ValType) → caught t tag ≡ Some l → caught final tag ≡ Some l
    caught_later t grows None l e = e
    caught_later t grows (Some id) l e = params_grow t final grows id l e

    results_later : (t : Table) → Grows t final → (block : InstrSeqType) (l : List ValType) → block_results t block ≡ Some l → block_results final block ≡ Some l
    results_later t grows (Simple ty) l e = e
    results_later t grows (MultiValue id) l e = function_results_grow t final grows id l e

    if_behind : (o p : Option (List ValType)) (was ty : InstrSeqType) (t u : Table) → FindsIf o p was t ty u → ((ps rs : List ValType) → o ≡ Some ps → p ≡ Some rs → NamesSo Low (function_kind ps rs)) → Behind t → Behind u
    if_behind (Some ps) (Some rs) was ty t u f low h = found_behind ps rs ty t u f (low ps rs refl refl) h
    if_behind (Some ps) None was ty t u f low h = subst Behind (sym f.1) h
    if_behind None (Some rs) was ty t u f low h = subst Behind (sym f.1) h
    if_behind None None was ty t u f low h = subst Behind (sym f.1) h

    at_behind : (k : ℕ) (x : Option Handler) (b c : List Seq) (t u : Table) → GivesAt k x b t c u → Grows t final → FitsFile x → Behind t → Behind u
    at_behind k None b c t u (is, kept) grows fits h = subst Behind (sym kept) h
    at_behind k (Some x) b c t u (y, found, ty, gives, is) grows fits h =
        if_behind (caught t x.tag_type) (block_results t x.block) y.ty ty t u gives
        (λ ps rs p r. fits ps rs (caught_later t grows x.tag_type ps p) (results_later t grows x.block rs r)) h

    given_behind : (told : ℕ → Option Handler) (ks : List ℕ) (b c : List Seq) (t v : Table) → Gives told ks b t c v → Grows v final → AllOf FitsFile (map told ks) → Behind t → Behind v
    given_behind told [] b c t v (is, kept) grows fits h = subst Behind (sym kept) h
    given_behind told (k ∷ ks) b c t v (mid, u, one, rest) grows fits h =
        let later : Grows u final = grows_on u v final (given_types_grow told ks mid c u v rest) grows in
        given_behind told ks mid c u v rest grows fits.1 (at_behind k (told k) b mid t u one (grows_on t u final (at_grows k (told k) b mid t u one) later) fits.0 h)

    -- ---- bodies, one after another

    pub steps_behind : (file : FileEnv) (features : WasmFeatures) (bs : List FunctionBody) (old new : State) → (steps : Steps file features bs old new) → Grows new.types final
        → AllOf FitsFile (handlers_in file features bs old new steps) → Behind old.types → Behind new.types
    steps_behind file features [] old new e grows fits h = subst (λ (s : State). Behind s.types) (sym e) h
    steps_behind file features (b ∷ bs) old new (mid, s, rest) grows fits h =
        let g = s.handled in
        let told : ℕ → Option Handler = told_by (tag_type_at g.env.tags.now) g.own (tree_ids g.tree) in
        let hs : List (Option Handler) = tree_handlers (tag_type_at g.env.tags.now) g.own g.tree in
        let others : List (Option Handler) = handlers_in file features bs mid new rest in
        let later : Grows mid.types final = grows_on mid.types new.types final (steps_grow grows_on file features bs mid new rest) grows in
        let entered : Behind s.mid = merges_behind (entry_kind s.results) s.entry old.types s.mid s.entered (results_low old.types h (type_of s.item.kind) s.results s.results_are) h in
        let given : Behind mid.types =
        given_behind told (tree_ids g.tree) (map seq_of g.own) (contents s.body.builder.builder) s.mid mid.types g.given later (all_left FitsFile hs others fits) entered in
        steps_behind file features bs mid new rest grows (all_right FitsFile hs others fits) given

    -- ---- handlers by what they take and give

    module _ (later : Table) (same_caught : (tag : Option ℕ) → caught later tag ≡ caught final tag) (same_results : (block : InstrSeqType) → block_results later block ≡ block_results final block) where
      one_fits : (x : Option Handler) → AllOf SignatureLow (signatures later x) → FitsFile x
      one_fits None low = tt
      one_fits (Some x) low = λ ps rs p r.
          let both : signatures later (Some x) ≡ signature_of (Some ps) (Some rs) =
          ap (λ (o : Option (List ValType)). signature_of o (block_results later x.block)) (same_caught x.tag_type ∙ p) ∙ ap (signature_of (Some ps)) (same_results x.block ∙ r) in
          (subst (AllOf SignatureLow) both low).0

      pub all_fit : (hs : List (Option Handler)) → AllOf SignatureLow (flat_map (signatures later) hs) → AllOf FitsFile hs
      all_fit [] low = tt
      all_fit (x ∷ hs) low =
          (one_fits x (all_left SignatureLow (signatures later x) (flat_map (signatures later) hs) low), all_fit hs (all_right SignatureLow (signatures later x) (flat_map (signatures later) hs) low))
