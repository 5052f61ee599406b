-- Lemmas: the types of a module that was read name none past their own groups.
use Rattle.std.specs.Prelude.{ℕ, zero, suc, ◌≡◌, ◌<◌, ◌≤◌, List, [], ◌∷◌, map, Contains, Option, Some, None, MatchOption, slice_index_or, refl}
use Rattle.std.specs.List.{flat_map}
use Rattle.std.specs.Option.{option_and_then, option_map}
use Rattle.std.proofs.Common.{ap, sym, ◌∙◌, subst, arith, inl, inr}
use Rattle.walrus_forms.specs.Kinds.{Kind, kind_names}
use Rattle.walrus_forms.specs.Records.{TypeGroup}
use Rattle.walrus_forms.specs.Renaming.{at}
use Rattle.walrus_function_types.specs.FunctionTypes.{form_params, form_results}
use Rattle.walrus_parse_laws.specs.walrus_named_bodies.walrus_file_bodies.walrus_items_into.walrus_module_env.walrus_handler_types.Giving.{block_results, caught}
use Rattle.walrus_parse_laws.specs.Added.{Signature}
use Rattle.walrus_parse_laws.specs.Files.{ReadModulesHaveHandlers, bodies_handle, sent}
use Rattle.walrus_parse_laws.specs.Groups.{handlers_in}
use Rattle.walrus_parse_laws.specs.Handlers.{signatures}
use Rattle.walrus_parse_laws.proofs.WholeLemmas.{bare_same}
use Rattle.walrus_parse_laws.proofs.ListLemmas.{AllOf, all_contains, some_is}
use Rattle.walrus_parse_laws.specs.walrus_meaning.walrus_linked.walrus_body_writer.walrus_pairing.walrus_index_maps.Maps.{Ids}
use Rattle.walrus_parse_laws.specs.walrus_meaning.walrus_linked.walrus_body_writer.walrus_pairing.wasm_operators.wasm_features.declared.WasmFeatures.{WasmFeatures}
use Rattle.walrus_parse_laws.specs.walrus_types_into.Into.{no_types}
use Rattle.walrus_parse_laws.specs.walrus_meaning.walrus_linked.walrus_body_writer.walrus_pairing.walrus_instr.declared.seq.InstrSeqType.{InstrSeqType}
use Rattle.walrus_parse_laws.specs.walrus_meaning.walrus_linked.walrus_body_writer.walrus_pairing.walrus_instr.declared.seq.InstrSeqType.TheVariants.{Simple, MultiValue}
use Rattle.walrus_parse_laws.specs.walrus_named_bodies.Parsed.{read_features}
use Rattle.walrus_parse_laws.specs.walrus_named_bodies.walrus_file_bodies.Laws.{BodiesReadFiles}
use Rattle.walrus_parse_laws.specs.walrus_named_bodies.walrus_file_bodies.Read.{grows_none}
use Rattle.walrus_parse_laws.specs.walrus_named_bodies.walrus_file_bodies.Ready.{bodies_in}
use Rattle.walrus_parse_laws.specs.walrus_named_bodies.walrus_file_bodies.walrus_items_into.Numbers.{types_in}
use Rattle.walrus_parse_laws.specs.walrus_named_bodies.walrus_file_bodies.walrus_items_into.wasm_module_rules.wasm_modules.Modules.{module_of}
use Rattle.walrus_parse_laws.specs.walrus_named_bodies.walrus_file_bodies.walrus_items_into.walrus_tables_into.walrus_sections_into.walrus_known_sections.State.{state_of}
use Rattle.walrus_parse_laws.specs.walrus_named_bodies.walrus_file_bodies.walrus_items_into.walrus_functions_into.declared.bodies.FunctionBody.{FunctionBody}
use Rattle.walrus_parse_laws.specs.walrus_named_bodies.walrus_file_bodies.walrus_module_bodies.Steps.{State, Steps, state}
use Rattle.walrus_parse_laws.specs.walrus_named_bodies.walrus_file_bodies.walrus_module_bodies.declared.file.FileEnv.{FileEnv}
use Rattle.walrus_parse_laws.specs.walrus_named_bodies.walrus_item_names.Holder.{Holder}
use Rattle.walrus_parse_laws.specs.walrus_named_bodies.walrus_item_names.Names.{bare_type}
use Rattle.walrus_pass_laws.specs.walrus_refusals.Written.{MayName, NamesNoLater}
use Rattle.walrus_types.specs.Items.{Group, Item}
use Rattle.walrus_types.specs.Parsing.{Parsed, parsed, unparsed}
use Rattle.walrus_types.specs.Table.{Table, next_id, type_at}
use Rattle.walrus_parse_gc_laws.specs.Stays.{ReadTypesStayInGroups}
use Rattle.walrus_parse_gc_laws.proofs.BodyLemmas.{Behind, SignatureLow, all_fit, sent_low, steps_behind}
use Rattle.walrus_parse_gc_laws.proofs.FileLemmas.{Stays, file_stays}
use Rattle.walrus_parse_gc_laws.proofs.ServedNameLemmas.{Named, all_up}

-- ---- tables that differ in names alone

params_bare : (o : Option Item) → option_and_then (λ (x : Item). form_params x.kind.form) o ≡ option_and_then (λ (x : Item). form_params x.kind.form) (option_map bare_type o)
params_bare None = refl
params_bare (Some x) = refl

results_bare : (o : Option Item) → option_and_then (λ (x : Item). form_results x.kind.form) o ≡ option_and_then (λ (x : Item). form_results x.kind.form) (option_map bare_type o)
results_bare None = refl
results_bare (Some x) = refl

module _ (t u : Table) (types : map (option_map bare_type) t.types ≡ map (option_map bare_type) u.types) (groups : t.groups ≡ u.groups) where
  same_type : (id : ℕ) → option_map bare_type (type_at t id) ≡ option_map bare_type (type_at u id)
  same_type id = bare_same bare_type t.types u.types id types

  same_caught : (tag : Option ℕ) → caught t tag ≡ caught u tag
  same_caught None = refl
  same_caught (Some id) =
      params_bare (type_at t id) ∙ ap (λ (o : Option Item). option_and_then (λ (x : Item). form_params x.kind.form) o) (same_type id) ∙ sym (params_bare (type_at u id))

  same_results : (block : InstrSeqType) → block_results t block ≡ block_results u block
  same_results (Simple ty) = refl
  same_results (MultiValue id) =
      results_bare (type_at t id) ∙ ap (λ (o : Option Item). option_and_then (λ (x : Item). form_results x.kind.form) o) (same_type id) ∙ sym (results_bare (type_at u id))

  may_name : (id name : ℕ) → MayName u id name → MayName t id name
  may_name id name may =
      elim may as (λ _. MayName t id name) [
        | inl le ↦ inl le
        | inr one ↦ inr (
          one.0,
          record {
            place = one.1.place;
            live = ap (λ (gs : List (Option Group)). slice_index_or gs one.1.place None) groups ∙ one.1.live;
            listed = one.1.listed;
          },
          one.2,
        )
      ]

  names_no_later : Named (MayName u) u → (id : ℕ) → NamesNoLater t id
  names_no_later named id = go (type_at t id) (type_at u id) (same_type id) refl
    where
      go : (o p : Option Item) → option_map bare_type o ≡ option_map bare_type p → type_at u id ≡ p
          → MatchOption o (Unit {0}) (λ (ty : Item). (name : ℕ) → Contains (kind_names ty.kind) name → MayName t id name)
      go None p e is = tt
      go (Some x) None e is = absurd cc
      go (Some x) (Some y) e is = λ name has.
          let kind : x.kind ≡ y.kind = ap (λ (z : Item). z.kind) (some_is (bare_type x) (bare_type y) e) in
          may_name id name (all_contains (MayName u id) (kind_names x.kind) name (subst (λ (k : Kind). AllOf (MayName u id) (kind_names k)) (sym kind) (named id y is)) has)

-- what an index stands for is a type of the file, or the first
at_most : (end : ℕ) (ids : List ℕ) → AllOf (λ id. id < end) ids → (n : ℕ) → at ids n ≤ end
at_most end [] h n = omega arith
at_most end (id ∷ ids) h zero = let lt = h.0 in omega (arith, lt)
at_most end (id ∷ ids) h (suc n) = at_most end ids h.1 n

first_behind : (p : Parsed) → Stays p → Behind (next_id p.table) p.table
first_behind p h = record {
  many = omega arith;
  names = λ id x there.
      all_up (λ name. (name < next_id p.table) × MayName p.table id name) (λ name. (name ≤ next_id p.table) × MayName p.table id name) (λ name k. ((let lt = k.0 in omega (arith, lt)), k.1)) (kind_names x.kind) (h.names id x there);
}

-- bodies that were read one after another into a table of a file's types, and what the types are called
module _ (groups : List TypeGroup) (file : FileEnv) (features : WasmFeatures) (bs : List FunctionBody) (old new : State) (steps : Steps file features bs old new) (t : Table) (found : List ℕ) (ss : List Signature) where
  abbrev read : Parsed
  read = parsed groups (unparsed no_types)

  pub bodies_stay : old.types ≡ read.table → found ≡ read.ids → map (option_map bare_type) t.types ≡ map (option_map bare_type) new.types.types → t.groups ≡ new.types.groups
      → flat_map (signatures t) (handlers_in file features bs old new steps) ≡ map (sent (at found)) ss → (id : ℕ) → NamesNoLater t id
  bodies_stay filled numbered bare alike told =
      let own : ℕ = next_id read.table in
      let stays : Stays read = file_stays groups in
      let low : AllOf (SignatureLow own) (map (sent (at found)) ss) = sent_low own (at found) (λ n. subst (λ (l : List ℕ). at l n ≤ own) (sym numbered) (at_most own read.ids stays.ids n)) ss in
      let fit = all_fit own new.types t (same_caught t new.types bare alike) (same_results t new.types bare alike) (handlers_in file features bs old new steps) (subst (AllOf (SignatureLow own)) (sym told) low) in
      let ended : Behind own new.types = steps_behind own new.types file features bs old new steps (grows_none new.types) fit (subst (Behind own) (sym filled) (first_behind read stays)) in
      names_no_later t new.types bare alike (λ id x there. all_up (λ name. (name ≤ own) × MayName new.types id name) (MayName new.types id) (λ name h. h.1) (kind_names x.kind) (ended.names id x there))

pub types_stay : {B : Type 0} → ReadModulesHaveHandlers B → BodiesReadFiles B → ReadTypesStayInGroups B
types_stay {B} have bodies config bytes m found small is =
    let h = is.1 in
    let features = read_features config in
    let read = bodies features bytes h.sections m.start h.numbers h.filled h.file [] h.bodied h.reads.short small h.reads.sections h.are_filled h.is_file h.bodies_are in
    let numbered : found.types ≡ (types_in h.sections).ids = ap (λ (j : Ids). j.types) (h.found_are ∙ read.3) ∙ ap (λ (j : Ids). j.types) h.are_filled.numbers in
    bodies_stay h.sections.types h.file features (bodies_in h.sections h.filled.functions) (state h.filled.types [] h.numbers h.filled.functions) h.bodied h.bodies_are m.types found.types
    (bodies_handle (module_of (state_of h.sections) h.bodies) h.bodies) h.are_filled.types numbered (ap (λ (x : Holder). x.types.types) h.names.same) (ap (λ (x : Holder). x.types.groups) h.names.same)
    (have config bytes m found small is)
