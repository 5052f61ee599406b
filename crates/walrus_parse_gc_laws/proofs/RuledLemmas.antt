-- Lemmas: a module that was read means a module that meets the rules.
use Rattle.std.specs.Prelude.{ℕ, ◌≡◌, ◌<◌, ◌+◌, ◌&&◌, not, Bool, true, false, List, [], ◌∷◌, ◌++◌, length, map, filter, Option, Some, None, refl, if◌then◌else◌}
use Rattle.std.specs.List.{flat_map}
use Rattle.std.specs.Option.{option_map}
use Rattle.std.proofs.Common.{ap, sym, ◌∙◌, subst, arith}
use Rattle.std.proofs.lemmas.Option.{slice_get_within}
use Rattle.walrus_types.specs.walrus_forms.Kinds.{Kind}
use Rattle.walrus_types.specs.walrus_forms.Records.{TypeGroup}
use Rattle.walrus_types.specs.walrus_forms.Renaming.{RefBelow, ValueBelow, at, renamed_kind}
use Rattle.walrus_types.specs.walrus_forms.Same.{same_kind}
use Rattle.walrus_types.specs.Mergers.{ParsingCarriesSame}
use Rattle.wasm_merged_modules.specs.wasm_normal_modules.wasm_ruled_renamed.wasm_ruled_normal.wasm_normal_form.wasm_operators.wasm_features.declared.WasmFeatures.{WasmFeatures}
use Rattle.wasm_merged_modules.specs.wasm_normal_modules.wasm_ruled_renamed.wasm_ruled_normal.wasm_normal_form.wasm_operators.declared.block_type.BlockType.{BlockType}
use Rattle.wasm_merged_modules.specs.wasm_normal_modules.wasm_ruled_renamed.wasm_ruled_normal.wasm_ruled_modules.wasm_module_rules.wasm_modules.wasm_body_grammar.wasm_grammar.Exprs.{Known}
use Rattle.wasm_merged_modules.specs.wasm_normal_modules.wasm_ruled_renamed.wasm_ruled_normal.wasm_ruled_modules.wasm_module_rules.wasm_modules.wasm_body_grammar.wasm_grammar.Modules as grammar
use Rattle.wasm_merged_modules.specs.wasm_normal_modules.wasm_ruled_renamed.wasm_ruled_normal.wasm_ruled_modules.wasm_module_rules.wasm_modules.wasm_body_grammar.wasm_grammar.States.{types_of}
use Rattle.wasm_merged_modules.specs.wasm_normal_modules.wasm_ruled_renamed.wasm_ruled_normal.wasm_ruled_modules.wasm_module_rules.wasm_modules.wasm_body_grammar.Codes.{param_count}
use Rattle.wasm_merged_modules.specs.wasm_normal_modules.wasm_ruled_renamed.wasm_ruled_normal.wasm_ruled_modules.wasm_module_rules.Linked.{Each, IsFunctionType}
use Rattle.wasm_merged_modules.specs.wasm_normal_modules.wasm_ruled_renamed.wasm_ruled_normal.wasm_ruled_modules.Rules.{GroupsBelow, IsInit, IsPlaced, ItemsBelow, ItemsKnown, around_bodies, knows, knows_imported, memory_wide, own_init, table_wide}
use Rattle.wasm_merged_modules.specs.wasm_normal_modules.wasm_ruled_renamed.wasm_ruled_normal.Normal.{NormalOperatorsAreRuled}
use Rattle.wasm_merged_modules.specs.wasm_normal_modules.wasm_ruled_renamed.wasm_ruled_normal.wasm_run_names.Picks.{block_pick}
use Rattle.wasm_merged_modules.proofs.wasm_normal_modules.Slots.{each_both, get_some}
use Rattle.wasm_merged_modules.proofs.Merged.{kind_there, many}
use Rattle.wasm_merged_modules.specs.wasm_normal_modules.Modules as normal
use Rattle.wasm_merged_modules.specs.wasm_normal_modules.Modules.{MeetsRules, OriginPicked, RulesHoldCounted}
use Rattle.wasm_merged_modules.specs.wasm_normal_modules.Numbered.{NamesDecide, NumberedOperatorsAreNormal}
use Rattle.wasm_merged_modules.specs.Merged as merged
use Rattle.wasm_merged_modules.specs.Merged.{MergedFilesAreRuled, UnfoundKindsAreMissing, ids_of, is_filled, kept_of, kinds_of, merged_module, merged_types, single}
use Rattle.walrus_config.specs.declared.config.ModuleConfig.{ModuleConfig}
use Rattle.walrus_parse_laws.specs.walrus_meaning.walrus_body_writer.walrus_pairing.walrus_index_maps.Maps.{Ids}
use Rattle.walrus_parse_laws.specs.FilledGroups.{is_new, kept, renamed_group}
use Rattle.walrus_parse_laws.specs.Meaning.{type_id}
use Rattle.walrus_parse_laws.specs.Renamed as into
use Rattle.walrus_parse_laws.specs.walrus_meaning.Meaning.{has_kinds, own_element, own_global, own_segment, own_table, own_tag, table_init}
use Rattle.walrus_parse_laws.specs.walrus_named_bodies.walrus_item_names.walrus_module.Parts.{parts}
use Rattle.walrus_parse_laws.specs.walrus_named_bodies.walrus_item_names.walrus_module.declared.module.Module.{Module as Whole}
use Rattle.walrus_parse_laws.specs.walrus_named_bodies.Parsed.{read_features}
use Rattle.walrus_parse_laws.specs.Added.{is_missing, kind_of, once}
use Rattle.walrus_parse_laws.specs.Files.{bodies_handle, sent}
use Rattle.walrus_parse_laws.specs.walrus_named_bodies.walrus_file_bodies.walrus_items_into.walrus_tables_into.walrus_sections_into.Becomes.{look_of}
use Rattle.walrus_parse_laws.specs.Meant.{module_meant, picks, place_of}
use Rattle.walrus_parse_laws.specs.Means.{HasLocals, MeansFile, ReadModulesMeanFiles, bodies_of, handler_kinds, is_payload, section_if}
use Rattle.walrus_parse_gc_laws.specs.Numbered.{numbered}
use Rattle.walrus_parse_gc_laws.specs.Ruled.{MeaningsAreMerged, ReadModulesMeanRuledOnes}
use Rattle.walrus_parse_gc_laws.proofs.FunctionLemmas.{functions_numbered, picks_same, type_named, typed_below}
use Rattle.walrus_parse_gc_laws.proofs.HandlerLemmas.{handlers_missing}
use Rattle.walrus_parse_gc_laws.proofs.RuledItemLemmas.{ElementsPlain, InitPlain, ModePlain, OriginPlain, data_mode_plain, element_alike, element_mode_plain, elements_plain, global_alike, globals_known, init_plain, segment_alike, slots_alike, table_alike, value_plain}

-- ---- the types of a file

filled_same : (marked : Bool) (kinds : List Kind) → has_kinds (record { marked = marked; kinds = kinds }) ≡ is_filled kinds
filled_same marked [] = refl
filled_same marked (k ∷ kinds) = refl

kept_same : (ids : List ℕ) (n : ℕ) (groups : List TypeGroup) → kept ids n groups ≡ merged.kept ids n groups
kept_same ids n [] = refl
kept_same ids n (g ∷ groups) =
    ap (λ (b : Bool). if b && is_new ids n then renamed_group (at ids) g ∷ kept ids (n + length g.kinds) groups else kept ids (n + length g.kinds) groups) (filled_same g.marked g.kinds)
    ∙ ap (λ (l : List TypeGroup). if is_filled g.kinds && is_new ids n then renamed_group (at ids) g ∷ l else l) (kept_same ids (n + length g.kinds) groups)

once_same : (kinds : List Kind) → once kinds ≡ merged.once kinds
once_same [] = refl
once_same (k ∷ kinds) = ap (λ (l : List Kind). k ∷ filter (λ other. not (same_kind k other)) l) (once_same kinds)

module _ (carries : ParsingCarriesSame) (groups : List TypeGroup) (below : GroupsBelow 0 groups) where
  as_many : (n : ℕ) → n < length (kinds_of groups) → n < length (ids_of groups)
  as_many n lt = let all = many carries groups below in omega (arith, lt, all)

  -- it is that of a merged type
  id_below : (n : ℕ) → n < length (kinds_of groups) → at (ids_of groups) n < length (kinds_of (kept_of groups))
  id_below n lt =
      let kind = get_some (kinds_of groups) n lt in
      slice_get_within (kinds_of (kept_of groups)) (at (ids_of groups) n) (renamed_kind (at (ids_of groups)) kind.0) (kind_there carries groups below n kind.0 kind.1)

-- ---- the module that is meant

module _ {B : Type 0} (carries : ParsingCarriesSame) (numbering : NumberedOperatorsAreNormal) (decide : NamesDecide) (counts : RulesHoldCounted) (config : ModuleConfig) (file : grammar.Module) (m : Whole B) (found : Ids)
    (h : MeansFile config file m found) where
  abbrev features : WasmFeatures
  features = read_features config

  pub rules : MeetsRules features true file
  rules = counts features h.counted file (record { linked = h.ruled.linked; groups = h.ruled.groups; named = h.ruled.named; expressed = h.ruled.expressed; bodies = h.ruled.bodies })

  abbrev types : ℕ
  types = length (types_of file)

  abbrev kinds : List Kind
  kinds = handler_kinds file

  abbrev r : ℕ → ℕ
  r = type_id (look_of found)

  abbrev s : ℕ → ℕ
  s = at (ids_of file.groups)

  abbrev pick : BlockType → BlockType
  pick = block_pick (around_bodies features true file)

  as_picked : picks features file ≡ pick
  as_picked = picks_same features false true file

  sized : (n : ℕ) → n < types → n < length found.types
  sized n lt = subst (λ (ids : List ℕ). n < length ids) (sym h.types) (as_many carries file.groups rules.groups n lt)

  same : (n : ℕ) → n < types → r n ≡ s n
  same n lt = type_named numbering features file (parts m) found rules.groups h.others sized n lt ∙ ap (λ (ids : List ℕ). at ids n) h.types

  groups : (numbered (parts m)).groups ≡ kept_of file.groups ++ map single kinds
  groups =
      ap (λ (x : grammar.Module). x.groups) h.meant
      ∙ ap (λ (l : List TypeGroup). l ++ map single kinds) (ap (λ (ids : List ℕ). kept ids 0 file.groups) h.types ∙ kept_same (ids_of file.groups) 0 file.groups)

  functions : (numbered (parts m)).functions ≡ map (option_map (normal.normal_function place_of (around_bodies features true file) s)) file.functions
  functions =
      functions_numbered numbering features file (parts m) found rules.groups h.others sized h.linked rules.linked.functions_typed rules.bodies
      (λ n g x there o. subst (λ (p : BlockType → BlockType). HasLocals (parts m) found p n (param_count file g.ty) x) as_picked (h.locals n g x there o))
      (ap (λ (x : grammar.Module). x.functions) (h.meant ∙ ap (λ (p : BlockType → BlockType). module_meant found p file kinds) as_picked))
      ∙ ap (λ (ids : List ℕ). map (option_map (normal.normal_function place_of (around_bodies features true file) (at ids))) file.functions) h.types

  tables : (numbered (parts m)).tables ≡ map (option_map (normal.retyped_table s)) file.tables
  tables =
      let e = ap (λ (x : grammar.Module). x.tables) h.meant in
      let P : grammar.Table → Type 0 = λ t. RefBelow types t.element × IsInit (knows_imported file) t.init in
      e ∙ slots_alike own_table (into.retyped_table r) (normal.retyped_table s) P (λ t. InitPlain t.init) (λ t. init_plain (table_init t)) (table_alike decide r s types same (knows_imported file) refl) (parts m).tables.slots file.tables e
      (each_both (λ (t : grammar.Table). RefBelow types t.element) (λ (t : grammar.Table). IsInit (knows_imported file) t.init) file.tables rules.named.tables rules.expressed.tables)

  tags : (numbered (parts m)).tags ≡ map (option_map (normal.retyped_tag s)) file.tags
  tags =
      let e = ap (λ (x : grammar.Module). x.tags) h.meant in
      e ∙ slots_alike own_tag (into.retyped_tag r) (normal.retyped_tag s) (λ t. IsFunctionType file t.ty) (λ t. Unit {0}) (λ t. tt)
      (λ t _ typed. λ i. record t { ty = same t.ty (typed_below (types_of file) t.ty typed) i }) (parts m).tags.slots file.tags e rules.linked.tags_typed

  globals : (numbered (parts m)).globals ≡ map (option_map (normal.retyped_global s)) file.globals
  globals =
      let e = ap (λ (x : grammar.Module). x.globals) h.meant in
      let P : grammar.Global → Type 0 = λ g. ValueBelow types g.ty × ((k : Known) × (k.types ≡ types) × IsInit k (own_init g.origin)) in
      e ∙ slots_alike own_global (into.retyped_global r) (normal.retyped_global s) P (λ g. OriginPlain g.origin) (λ g. value_plain g.kind) (global_alike decide r s types same) (parts m).globals.slots file.globals e
      (each_both (λ (g : grammar.Global). ValueBelow types g.ty) (λ (g : grammar.Global). (k : Known) × (k.types ≡ types) × IsInit k (own_init g.origin)) file.globals rules.named.globals
      (globals_known types (length file.functions) [] file.globals rules.expressed.globals))

  elements : (numbered (parts m)).elements ≡ map (option_map (normal.retyped_element s)) file.elements
  elements =
      let e = ap (λ (x : grammar.Module). x.elements) h.meant in
      let Named : grammar.Element → Type 0 = λ x. ItemsBelow types x.items in
      let Placed : grammar.Element → Type 0 = λ x. IsPlaced (table_wide file.tables) (knows file) x.mode in
      let Listed : grammar.Element → Type 0 = λ x. ItemsKnown (knows file) x.items in
      e ∙ slots_alike own_element (into.retyped_element r) (normal.retyped_element s) (λ x. Named x × (Placed x × Listed x)) (λ x. ModePlain x.mode × ElementsPlain x.items) (λ x. (element_mode_plain x.kind, elements_plain x.items))
      (element_alike decide r s types same (table_wide file.tables) (knows file) refl) (parts m).elements.slots file.elements e
      (each_both Named (λ x. Placed x × Listed x) file.elements rules.named.elements (each_both Placed Listed file.elements rules.expressed.offsets rules.expressed.items))

  segments : (numbered (parts m)).segments ≡ map (option_map (normal.retyped_segment s)) file.segments
  segments =
      let e = ap (λ (x : grammar.Module). x.segments) h.meant in
      e ∙ slots_alike own_segment (into.retyped_segment r) (normal.retyped_segment s) (λ x. IsPlaced (memory_wide file.memories) (knows file) x.mode) (λ x. ModePlain x.mode) (λ x. data_mode_plain x.kind)
      (segment_alike decide r s types same (memory_wide file.memories) (knows file) refl) (parts m).data_segments.slots file.segments e rules.expressed.segments

  pub is_merged : numbered (parts m) ≡ merged_module place_of features true (map single kinds) file
  is_merged = λ i. record {
    groups = groups i;
    imports = ap (λ (x : grammar.Module). x.imports) h.meant i;
    functions = functions i;
    tables = tables i;
    memories = ap (λ (x : grammar.Module). x.memories) h.meant i;
    tags = tags i;
    globals = globals i;
    exports = ap (λ (x : grammar.Module). x.exports) h.meant i;
    start = ap (λ (x : grammar.Module). x.start) h.meant i;
    elements = elements i;
    segments = segments i;
    customs = [];
  }

pub meanings_merged : {B : Type 0} → ParsingCarriesSame → NumberedOperatorsAreNormal → NamesDecide → RulesHoldCounted → MeaningsAreMerged B
meanings_merged carries numbering decide counts config file m found h = is_merged carries numbering decide counts config file m found h

-- ---- it meets the rules

-- no custom section that stays a section has the name of another kind
abbrev IsApart : grammar.Custom → Type 0
IsApart c = is_payload c ≡ false

sections_apart : (cs : List (Option grammar.Custom)) → Each IsApart (flat_map section_if cs)
sections_apart [] = tt
sections_apart (None ∷ cs) = sections_apart cs
sections_apart (Some c ∷ cs) = by (is_payload c) refl (sections_apart cs)
  where
    by : (b : Bool) → is_payload c ≡ b → Each IsApart (flat_map section_if cs) → Each IsApart ((if b then [] else Some c ∷ []) ++ flat_map section_if cs)
    by true e later = later
    by false e later = (e, later)

pub read_ruled : {B : Type 0} → ParsingCarriesSame → NormalOperatorsAreRuled → UnfoundKindsAreMissing → RulesHoldCounted → MergedFilesAreRuled → MeaningsAreMerged B → ReadModulesMeanFiles B → ReadModulesMeanRuledOnes B
read_ruled carries operators unfound counts ruled merged_so mean config bytes m found small is =
    let means = mean config bytes m found small is in
    let file = means.0 in
    let h = means.2 in
    let features = read_features config in
    let rules = counts features h.counted file (record { linked = h.ruled.linked; groups = h.ruled.groups; named = h.ruled.named; expressed = h.ruled.expressed; bodies = h.ruled.bodies }) in
    let lacking : List ℕ → List Kind = λ ids. map kind_of (filter (is_missing (merged_types file.groups).table) (map (sent (at ids)) (bodies_handle file (bodies_of file)))) in
    let missing = handlers_missing operators unfound features true file rules.groups (id_below carries file.groups rules.groups) rules.bodies in
    let kinds : handler_kinds file ≡ merged.once (lacking (ids_of file.groups)) = once_same (lacking (ids_of file.groups)) in
    let same : merged_module place_of features true (map single (merged.once (lacking (ids_of file.groups)))) file ≡ numbered (parts m) =
    sym (merged_so config file m found h ∙ ap (λ (ks : List Kind). merged_module place_of features true (map single ks) file) kinds) in
    let both = ruled place_of features bytes file (lacking (ids_of file.groups)) means.1 missing in
    record {
      rules = subst (MeetsRules features true) same both.0;
      picked = subst (λ (n : grammar.Module). Each (λ (f : grammar.Function). OriginPicked (around_bodies features true n) f.origin) n.functions) same both.1;
      sized = record { tables = h.sized.tables; memories = h.sized.memories };
      customs = λ given. subst (Each IsApart) (sym (h.customs given)) (sections_apart file.customs);
    }
