-- Lemmas: the types of a table that a file's are put into, and to which bodies add those of their blocks and handlers, are inexact.
use Rattle.std.proofs.Common.{ap, subst, sym, ◌∙◌}
use Rattle.std.specs.List.{AllByRecursion, flat_map}
use Rattle.std.specs.Option.{option_and_then, option_map}
use Rattle.std.specs.Prelude.{Bool, List, MatchOption, None, Option, Some, [], false, map, refl, slice_index_or, suc, true, zero, ℕ, ◌++◌, ◌+◌, ◌∷◌, ◌≡◌}
use Rattle.walrus_parse_laws.specs.walrus_named_bodies.walrus_file_bodies.walrus_items_into.walrus_module_env.walrus_handler_types.walrus_tree.walrus_builder.Built.{Seq, contents, seq_of}
use Rattle.walrus_pass_laws.specs.walrus_exact.Exact.{form_exact}
use Rattle.walrus_parse_laws.specs.walrus_named_bodies.walrus_file_bodies.Read.{steps_grow}
use Rattle.walrus_parse_laws.specs.walrus_pairing.walrus_forms.Forms.{ArrayForm, Form, FunctionForm, StructForm}
use Rattle.walrus_parse_laws.specs.walrus_pairing.walrus_forms.Kinds.{Kind, entry_kind, function_kind}
use Rattle.walrus_parse_laws.specs.walrus_pairing.walrus_forms.Records.{TypeGroup}
use Rattle.walrus_parse_laws.specs.walrus_pairing.walrus_forms.Renaming.{at, renamed_kind}
use Rattle.walrus_parse_laws.specs.walrus_pairing.walrus_forms.declared.value.ValType.{ValType}
use Rattle.walrus_function_types.proofs.GrowthLemmas.{grows_on}
use Rattle.walrus_function_types.specs.FunctionTypes.{form_params, form_results, params_at, results_at}
use Rattle.walrus_function_types.specs.Growth.{Grows}
use Rattle.walrus_parse_laws.specs.walrus_named_bodies.walrus_file_bodies.walrus_items_into.walrus_functions_into.declared.bodies.FunctionBody.{FunctionBody}
use Rattle.walrus_parse_laws.specs.walrus_named_bodies.walrus_file_bodies.walrus_items_into.walrus_module_env.walrus_handler_types.walrus_handler_laws.Handlers.{told_by, tree_ids}
use Rattle.walrus_parse_laws.specs.walrus_named_bodies.walrus_file_bodies.walrus_items_into.walrus_module_env.walrus_handler_types.walrus_handler_laws.declared.handler.Handler.{Handler}
use Rattle.walrus_parse_laws.proofs.walrus_named_bodies.walrus_handler_types.Growing.{at_grows, function_results_grow, given_types_grow, params_grow}
use Rattle.walrus_parse_laws.specs.walrus_named_bodies.walrus_file_bodies.walrus_items_into.walrus_module_env.walrus_handler_types.Giving.{Finds, FindsIf, Gives, GivesAt, block_results, caught, tree_handlers}
use Rattle.walrus_marks.specs.walrus_instr.BlockTypes.{Makes, picked, short_form}
use Rattle.walrus_marks.specs.walrus_instr.declared.seq.InstrSeqType.TheVariants.{Simple, MultiValue}
use Rattle.walrus_marks.specs.walrus_instr.declared.seq.InstrSeqType.{InstrSeqType}
use Rattle.walrus_parse_laws.specs.walrus_named_bodies.walrus_item_names.Names.{bare_type}
use Rattle.walrus_parse_laws.specs.walrus_named_bodies.walrus_file_bodies.walrus_module_bodies.Steps.{State, Steps}
use Rattle.walrus_parse_laws.specs.walrus_named_bodies.walrus_file_bodies.walrus_module_bodies.declared.file.FileEnv.{FileEnv}
use Rattle.walrus_parse_laws.specs.walrus_named_bodies.walrus_file_bodies.walrus_items_into.walrus_module_env.Env.{tag_type_at}
use Rattle.walrus_parse_laws.specs.walrus_named_bodies.walrus_file_bodies.walrus_items_into.walrus_module_env.walrus_collections.walrus_module_items.Functions.{type_of}
use Rattle.walrus_parse_laws.proofs.WholeLemmas.{bare_same}
use Rattle.walrus_parse_laws.specs.Groups.{handlers_in}
use Rattle.walrus_parse_laws.specs.Handlers.{signature_of, signatures}
use Rattle.walrus_parse_gc_laws.proofs.InexactTextLemmas.{InexactSignature, InexactSignatures}
use Rattle.walrus_parse_gc_laws.proofs.ValueLemmas.{form_false, form_renamed, some_is}
use Rattle.walrus_pass_laws.specs.walrus_refusals.Written.{HasNone}
use Rattle.walrus_marks.specs.walrus_instr.walrus_types.Groups.{new_items}
use Rattle.walrus_marks.specs.walrus_instr.walrus_types.Items.{Item}
use Rattle.walrus_marks.specs.walrus_instr.walrus_types.Parsing.{Parsed, added, known_ids, merged, parsed, parsed_group, unparsed, with_group}
use Rattle.walrus_marks.specs.walrus_instr.walrus_types.Table.{Adds, Merges, Table, equal_type, next_id, type_at}
use Rattle.walrus_parse_laws.specs.walrus_named_bodies.walrus_file_bodies.walrus_items_into.walrus_functions_into.walrus_types_into.Into.{no_types}
use Rattle.walrus_parse_laws.specs.walrus_named_bodies.walrus_file_bodies.walrus_items_into.walrus_module_env.walrus_body_parser.wasm_operators.wasm_features.declared.WasmFeatures.{WasmFeatures}
use Rattle.wasm_inexact_modules.specs.Inexact.{InexactForm, InexactGroups, InexactKinds, InexactValues}

-- each type of the table is inexact
abbrev pub IsPlain : Table → Type 0
IsPlain t = (id : ℕ) (x : Item) → type_at t id ≡ Some x → InexactForm x.kind.form

-- ---- what function types take and give

list_of : (form : Form) (tys : List ValType) → InexactForm form → form_params form ≡ Some tys → InexactValues tys
list_of (FunctionForm params results) tys h e = subst InexactValues (some_is params tys e) h.0
list_of (StructForm fields) tys h e = absurd cc
list_of (ArrayForm field) tys h e = absurd cc

result_list : (form : Form) (tys : List ValType) → InexactForm form → form_results form ≡ Some tys → InexactValues tys
result_list (FunctionForm params results) tys h e = subst InexactValues (some_is results tys e) h.1
result_list (StructForm fields) tys h e = absurd cc
result_list (ArrayForm field) tys h e = absurd cc

pub params_plain : (t : Table) → IsPlain t → (id : ℕ) (tys : List ValType) → params_at t id ≡ Some tys → InexactValues tys
params_plain t plain id tys e = go (type_at t id) refl e
  where
    go : (o : Option Item) → type_at t id ≡ o → option_and_then (λ (x : Item). form_params x.kind.form) o ≡ Some tys → InexactValues tys
    go None is e = absurd cc
    go (Some x) is e = list_of x.kind.form tys (plain id x is) e

pub results_plain : (t : Table) → IsPlain t → (id : ℕ) (tys : List ValType) → results_at t id ≡ Some tys → InexactValues tys
results_plain t plain id tys e = go (type_at t id) refl e
  where
    go : (o : Option Item) → type_at t id ≡ o → option_and_then (λ (x : Item). form_results x.kind.form) o ≡ Some tys → InexactValues tys
    go None is e = absurd cc
    go (Some x) is e = result_list x.kind.form tys (plain id x is) e

-- ---- more types

new_plain : (first : ℕ) (kinds : List Kind) (id : ℕ) (x : Item) → InexactKinds kinds → slice_index_or (new_items first kinds) id None ≡ Some x → InexactForm x.kind.form
new_plain first [] id x h e = absurd cc
new_plain first (kind ∷ kinds) zero x h e = subst (λ (y : Item). InexactForm y.kind.form) (some_is (let y : Item = record { id = first; kind = kind; name = None } in y) x e) h.0
new_plain first (kind ∷ kinds) (suc id) x h e = new_plain (first + 1) kinds id x h.1 e

more_plain : (slots : List (Option Item)) (first : ℕ) (kinds : List Kind) → InexactKinds kinds → ((id : ℕ) (x : Item) → slice_index_or slots id None ≡ Some x → InexactForm x.kind.form)
    → (id : ℕ) (x : Item) → slice_index_or (slots ++ new_items first kinds) id None ≡ Some x → InexactForm x.kind.form
more_plain [] first kinds h plain id x e = new_plain first kinds id x h e
more_plain (s ∷ slots) first kinds h plain zero x e = plain zero x e
more_plain (s ∷ slots) first kinds h plain (suc id) x e = more_plain slots first kinds h (λ n y there. plain (suc n) y there) id x e

adds_plain : (kind : Kind) (id : ℕ) (t u : Table) → Adds kind id t u → InexactForm kind.form → IsPlain t → IsPlain u
adds_plain kind id t u adds h plain = λ n x there. more_plain t.types id (kind ∷ []) (h, tt) plain n x (ap (λ (l : List (Option Item)). slice_index_or l n None) (sym adds.types) ∙ there)

pub merges_plain : (kind : Kind) (id : ℕ) (t u : Table) → Merges kind id t u → InexactForm kind.form → IsPlain t → IsPlain u
merges_plain kind id t u m h plain = go (equal_type kind t) m
  where
    go : (o : Option ℕ) → MatchOption o (Adds kind id t u) (λ found. (id ≡ found) × (u ≡ t)) → IsPlain u
    go (Some found) e = subst IsPlain (sym e.1) plain
    go None adds = adds_plain kind id t u adds h plain

-- ---- the types of a file

kinds_renamed : (r : ℕ → ℕ) (kinds : List Kind) → InexactKinds kinds → InexactKinds (map (renamed_kind r) kinds)
kinds_renamed r [] h = tt
kinds_renamed r (kind ∷ kinds) h = (form_renamed r kind.form h.0, kinds_renamed r kinds h.1)

group_plain : (explicit : Bool) (kinds : List Kind) (t : Table) → InexactKinds kinds → IsPlain t → IsPlain (with_group explicit kinds t)
group_plain explicit kinds t h plain = more_plain t.types (next_id t) kinds h plain

merged_plain : (found : Option ℕ) (kind : Kind) (s : Parsed) → InexactForm kind.form → IsPlain s.table → IsPlain (merged found kind s).table
merged_plain (Some id) kind s h plain = plain
merged_plain None kind s h plain = group_plain false (kind ∷ []) s.table (h, tt) plain

added_plain : (explicit : Bool) (kinds : List Kind) (s : Parsed) → InexactKinds kinds → IsPlain s.table → IsPlain (added explicit kinds s).table
added_plain true kinds s h plain = group_plain true kinds s.table h plain
added_plain false [] s h plain = group_plain true [] s.table h plain
added_plain false (kind ∷ []) s h plain = merged_plain (equal_type kind s.table) kind s h.0 plain
added_plain false (a ∷ b ∷ kinds) s h plain = group_plain true (a ∷ b ∷ kinds) s.table h plain

all_plain : (groups : List TypeGroup) (s : Parsed) → InexactGroups groups → IsPlain s.table → IsPlain (parsed groups s).table
all_plain [] s h plain = plain
all_plain (g ∷ groups) s h plain = all_plain groups (parsed_group g s) h.1 (added_plain g.marked (map (renamed_kind (at (known_ids g s))) g.kinds) s (kinds_renamed (at (known_ids g s)) g.kinds h.0) plain)

pub file_plain : (groups : List TypeGroup) → InexactGroups groups → IsPlain (parsed groups (unparsed no_types)).table
file_plain groups h = all_plain groups (unparsed no_types) h (λ id x there. absurd cc)

-- ---- the types of handlers

made_plain : (ps rs : List ValType) (ty : InstrSeqType) (t u : Table) → Makes ps rs ty t u → InexactValues ps × InexactValues rs → IsPlain t → IsPlain u
made_plain ps rs ty t u makes h plain = by (short_form ps rs) makes
  where
    by : (o : Option InstrSeqType) → MatchOption o ((id : ℕ) × (ty ≡ MultiValue id) × Merges (function_kind ps rs) id t u) (λ short. (ty ≡ short) × (u ≡ t)) → IsPlain u
    by None m = merges_plain (function_kind ps rs) m.0 t u m.2 h plain
    by (Some short) e = subst IsPlain (sym e.1) plain

found_plain : (ps rs : List ValType) (ty : InstrSeqType) (t u : Table) → Finds ps rs t ty u → InexactValues ps × InexactValues rs → IsPlain t → IsPlain u
found_plain ps rs ty t u f h plain = by (picked ps rs t) f
  where
    by : (o : Option InstrSeqType) → MatchOption o (Makes ps rs ty t u) (λ found. (ty ≡ found) × (u ≡ t)) → IsPlain u
    by None makes = made_plain ps rs ty t u makes h plain
    by (Some found) e = subst IsPlain (sym e.1) plain

if_plain : (o p : Option (List ValType)) (was ty : InstrSeqType) (t u : Table) → FindsIf o p was t ty u → ((ps rs : List ValType) → o ≡ Some ps → p ≡ Some rs → InexactValues ps × InexactValues rs) → IsPlain t → IsPlain u
if_plain (Some ps) (Some rs) was ty t u f h plain = found_plain ps rs ty t u f (h ps rs refl refl) plain
if_plain (Some ps) None was ty t u f h plain = subst IsPlain (sym f.1) plain
if_plain None (Some rs) was ty t u f h plain = subst IsPlain (sym f.1) plain
if_plain None None was ty t u f h plain = subst IsPlain (sym f.1) plain

module _ (final : Table) where
  -- what a handler takes and gives is inexact, by the last table
  abbrev Fits : Option Handler → Type 0
  Fits None = Unit {0}
  Fits (Some x) = (ps rs : List ValType) → caught final x.tag_type ≡ Some ps → block_results final x.block ≡ Some rs → InexactValues ps × InexactValues rs

  abbrev AllFit : List (Option Handler) → Type 0
  AllFit hs = AllByRecursion Fits hs

  caught_later : (t : Table) → Grows t final → (tag : Option ℕ) (l : List ValType) → caught t tag ≡ Some l → caught final tag ≡ Some l
  caught_later t grows None l e = e
  caught_later t grows (Some id) l e = params_grow t final grows id l e

  results_later : (t : Table) → Grows t final → (block : InstrSeqType) (l : List ValType) → block_results t block ≡ Some l → block_results final block ≡ Some l
  results_later t grows (Simple ty) l e = e
  results_later t grows (MultiValue id) l e = function_results_grow t final grows id l e

  one_given : (k : ℕ) (x : Option Handler) (b c : List Seq) (t u : Table) → GivesAt k x b t c u → Grows t final → Fits x → IsPlain t → IsPlain u
  one_given k None b c t u (is, kept) grows fits plain = subst IsPlain (sym kept) plain
  one_given k (Some x) b c t u (y, found, ty, gives, is) grows fits plain =
      if_plain (caught t x.tag_type) (block_results t x.block) y.ty ty t u gives (λ ps rs p r. fits ps rs (caught_later t grows x.tag_type ps p) (results_later t grows x.block rs r)) plain

  all_given : (told : ℕ → Option Handler) (ks : List ℕ) (b c : List Seq) (t v : Table) → Gives told ks b t c v → Grows v final → AllFit (map told ks) → IsPlain t → IsPlain v
  all_given told [] b c t v (is, kept) grows fits plain = subst IsPlain (sym kept) plain
  all_given told (k ∷ ks) b c t v (mid, u, one, rest) grows fits plain =
      let later : Grows u final = grows_on u v final (given_types_grow told ks mid c u v rest) grows in
      all_given told ks mid c u v rest grows fits.1 (one_given k (told k) b mid t u one (grows_on t u final (at_grows k (told k) b mid t u one) later) fits.0 plain)

  all_left : {A : Type 0} (P : A → Type 0) (xs ys : List A) → AllByRecursion P (xs ++ ys) → AllByRecursion P xs
  all_left P [] ys h = tt
  all_left P (x ∷ xs) ys h = (h.0, all_left P xs ys h.1)

  all_right : {A : Type 0} (P : A → Type 0) (xs ys : List A) → AllByRecursion P (xs ++ ys) → AllByRecursion P ys
  all_right P [] ys h = h
  all_right P (x ∷ xs) ys h = all_right P xs ys h.1

  -- bodies, one after another
  pub steps_plain : (file : FileEnv) (features : WasmFeatures) (bs : List FunctionBody) (old new : State) → (steps : Steps file features bs old new) → Grows new.types final → AllFit (handlers_in file features bs old new steps)
      → IsPlain old.types → IsPlain new.types
  steps_plain file features [] old new e grows fits plain = subst (λ (s : State). IsPlain s.types) (sym e) plain
  steps_plain file features (b ∷ bs) old new (mid, s, rest) grows fits plain =
      let g = s.handled in
      let told : ℕ → Option Handler = told_by (tag_type_at g.env.tags.now) g.own (tree_ids g.tree) in
      let hs : List (Option Handler) = tree_handlers (tag_type_at g.env.tags.now) g.own g.tree in
      let others : List (Option Handler) = handlers_in file features bs mid new rest in
      let later : Grows mid.types final = grows_on mid.types new.types final (steps_grow grows_on file features bs mid new rest) grows in
      let entered : IsPlain s.mid = merges_plain (entry_kind s.results) s.entry old.types s.mid s.entered (tt, results_plain old.types plain (type_of s.item.kind) s.results s.results_are) plain in
      let given : IsPlain mid.types = all_given told (tree_ids g.tree) (map seq_of g.own) (contents s.body.builder.builder) s.mid mid.types g.given later (all_left Fits hs others fits) entered in
      steps_plain file features bs mid new rest grows (all_right Fits hs others fits) given

  -- handlers by what they take and give
  module _ (later : Table) (same_caught : (tag : Option ℕ) → caught later tag ≡ caught final tag) (same_results : (block : InstrSeqType) → block_results later block ≡ block_results final block) where
    one_fits : (x : Option Handler) → InexactSignatures (signatures later x) → Fits x
    one_fits None h = tt
    one_fits (Some x) h = λ ps rs p r.
        let both : signatures later (Some x) ≡ signature_of (Some ps) (Some rs) =
        ap (λ (o : Option (List ValType)). signature_of o (block_results later x.block)) (same_caught x.tag_type ∙ p) ∙ ap (signature_of (Some ps)) (same_results x.block ∙ r) in
        (subst InexactSignatures both h).0

    pub all_fit : (hs : List (Option Handler)) → InexactSignatures (flat_map (signatures later) hs) → AllFit hs
    all_fit [] h = tt
    all_fit (x ∷ hs) h =
        (one_fits x (all_left InexactSignature (signatures later x) (flat_map (signatures later) hs) h), all_fit hs (all_right InexactSignature (signatures later x) (flat_map (signatures later) hs) h))

-- ---- tables that differ in names alone

params_bare : (o : Option Item) → option_and_then (λ (x : Item). form_params x.kind.form) o ≡ option_and_then (λ (x : Item). form_params x.kind.form) (option_map bare_type o)
params_bare None = refl
params_bare (Some x) = refl

results_bare : (o : Option Item) → option_and_then (λ (x : Item). form_results x.kind.form) o ≡ option_and_then (λ (x : Item). form_results x.kind.form) (option_map bare_type o)
results_bare None = refl
results_bare (Some x) = refl

module _ (t u : Table) (types : map (option_map bare_type) t.types ≡ map (option_map bare_type) u.types) where
  same_type : (id : ℕ) → option_map bare_type (type_at t id) ≡ option_map bare_type (type_at u id)
  same_type id = bare_same bare_type t.types u.types id types

  pub same_caught : (tag : Option ℕ) → caught t tag ≡ caught u tag
  same_caught None = refl
  same_caught (Some id) =
      params_bare (type_at t id) ∙ ap (λ (o : Option Item). option_and_then (λ (x : Item). form_params x.kind.form) o) (same_type id) ∙ sym (params_bare (type_at u id))

  pub same_results : (block : InstrSeqType) → block_results t block ≡ block_results u block
  same_results (Simple ty) = refl
  same_results (MultiValue id) =
      results_bare (type_at t id) ∙ ap (λ (o : Option Item). option_and_then (λ (x : Item). form_results x.kind.form) o) (same_type id) ∙ sym (results_bare (type_at u id))

  pub type_none : IsPlain u → (id : ℕ) → HasNone (λ (x : Item). form_exact x.kind.form) (type_at t id)
  type_none plain id = go (type_at t id) (type_at u id) (same_type id) refl
    where
      go : (o p : Option Item) → option_map bare_type o ≡ option_map bare_type p → type_at u id ≡ p → HasNone (λ (x : Item). form_exact x.kind.form) o
      go None p e is = tt
      go (Some x) None e is = absurd cc
      go (Some x) (Some y) e is =
          form_false x.kind.form (subst (λ (k : Kind). InexactForm k.form) (sym (ap (λ (z : Item). z.kind) (some_is (bare_type x) (bare_type y) e))) (plain id y is))
