-- Lemmas: references of a module that was read look the same by ids in memory as by places in the file.
use Rattle.std.specs.Prelude.{if◌then◌else◌, ℕ, ◌≡◌, ◌<◌, Bool, true, false, List, [], ◌∷◌, ◌++◌, All, Contains, length, map, Option, Some, None, IsSome, IfSome, slice_get, slice_index_or, refl}
use Rattle.std.specs.List.{flat_map, range_with_len}
use Rattle.std.specs.Option.{is_some, option_and_then, option_map}
use Rattle.std.proofs.Common.{ap, sym, ◌∙◌, subst, arith, inl, inr}
use Rattle.std.proofs.lemmas.Bool.{false≢true}
use Rattle.std.proofs.lemmas.List.{length-map}
use Rattle.std.proofs.lemmas.Option.{none-some, same_Some}
use Rattle.walrus_arena.specs.Arena.{item_at}
use Rattle.walrus_config.specs.declared.config.ModuleConfig.{ModuleConfig}
use Rattle.walrus_forms.specs.declared.value.ValType.{ValType}
use Rattle.walrus_forms.specs.Forms.{params_of}
use Rattle.walrus_forms.specs.Kinds.{Kind, kind_names}
use Rattle.walrus_forms.specs.Records.{TypeGroup}
use Rattle.walrus_forms.specs.Renaming.{at, renamed_kind, renamed_value}
use Rattle.walrus_forms.specs.Same.{SameKindIsEquality}
use Rattle.walrus_forms.proofs.RenamingLemmas.{In as Among}
use Rattle.walrus_index_maps.specs.Maps.{Ids}
use Rattle.walrus_types.specs.Items.{Item as TypeItem}
use Rattle.walrus_types.specs.Emission.{is_written, shown_kind}
use Rattle.walrus_types.specs.Mergers.{ParsingCarriesSame}
use Rattle.walrus_types.specs.Table.{next_id, type_at}
use Rattle.walrus_types.specs.TypeLaws.{AreGrouped}
use Rattle.wasm_features.specs.declared.WasmFeatures.{WasmFeatures}
use Rattle.wasm_formats.specs.declared.fault.Space.{Space}
use Rattle.wasm_formats.specs.declared.fault.Space.TheVariants as spaces
use Rattle.wasm_operators.specs.declared.block_type.BlockType.{BlockType}
use Rattle.wasm_operators.specs.Items.{Locals}
use Rattle.wasm_operators.specs.NameLaws.{NamesAreRenamed, same}
use Rattle.wasm_operators.specs.Names.{Renaming, operator_names, renamed_operator}
use Rattle.wasm_operators.specs.Operators.{Seen}
use Rattle.wasm_grammar.specs.Modules as grammar
use Rattle.wasm_grammar.specs.States.{types_of}
use Rattle.wasm_body_grammar.specs.Codes.{param_count}
use Rattle.wasm_body_grammar.specs.Rules.{Around}
use Rattle.wasm_modules.specs.Modules.{Reads}
use Rattle.wasm_module_rules.specs.Linked.{IsFunctionType}
use Rattle.wasm_ruled_modules.specs.Rules.{GroupsBelow, around_bodies}
use Rattle.wasm_normal_form.specs.Bodies.{is_used, new_number, used_keys}
use Rattle.wasm_normal_form.specs.Laws.{NormalNests}
use Rattle.wasm_normal_form.specs.Locals.{Key, numbered as keyed}
use Rattle.wasm_normal_form.specs.Normal.{normal, normal_ops}
use Rattle.wasm_normal_form.specs.Roles.{Placed}
use Rattle.wasm_normal_form.specs.Trees.{flat, tree_of}
use Rattle.wasm_ruled_normal.specs.Normal.{located}
use Rattle.wasm_run_names.specs.Picks.{block_pick}
use Rattle.wasm_ruled_renamed.specs.Bodies.{normal_renamed, with_numbers}
use Rattle.wasm_ruled_renamed.specs.Renamed.{renamed_placed}
use Rattle.wasm_normal_modules.specs.Modules.{ReadModulesBringNoTypes, by_types, normal_function, normal_origin, retyped_element, retyped_global, retyped_segment, retyped_table, retyped_tag}
use Rattle.wasm_merged_modules.specs.Merged.{MissingKindsAreNew, NewKindsStandBehind, ids_of, kept_of, kinds_of, merged_module}
use Rattle.wasm_merged_modules.proofs.Merged.{kind_there, kinds_joined}
use Rattle.wasm_references.specs.References.{HasData, HasElement, IsType, Numbered, RefersIn, body_items, element_items, function_items, global_items, item, local_items, named_by, names_items, segment_items, slot, table_items, tag_items, value_items}
use Rattle.wasm_references.specs.References as references
use Rattle.wasm_references.specs.Kept.{IsReached, refers}
use Rattle.wasm_part.specs.Handlers.{HandlersAreMissing, handler_groups}
use Rattle.wasm_part.specs.Seen.{kind_params, parts_in, seen_as, slot_locals, slot_parts}
use Rattle.walrus_body_steps.specs.Meanings.{meaning}
use Rattle.walrus_body_nesting.specs.Stands.{StandsAs}
use Rattle.walrus_body_locals.specs.Named.{kept_by}
use Rattle.walrus_body_trees.proofs.Bodies.{AreSpelled}
use Rattle.walrus_body_laws.proofs.Fitting.{RunsFit}
use Rattle.walrus_builder.specs.Built.{seq_of}
use Rattle.walrus_builder.specs.Functions.{seqs_of}
use Rattle.walrus_pairing.specs.Laws.{OperatorComesBack}
use Rattle.walrus_roots.specs.declared.item.Item.{Item as Held}
use Rattle.walrus_roots.specs.Items.{item as held}
use Rattle.walrus_tree.specs.TextLaws.{TextIsPlain, TreesAreNested}
use Rattle.walrus_linked.specs.Linked.{IsLinked, IsWhole}
use Rattle.walrus_local_function.specs.declared.local_function.LocalFunction.{LocalFunction}
use Rattle.walrus_module.specs.declared.module.Module.{Module as Whole}
use Rattle.walrus_module.specs.Items.{written, written_type}
use Rattle.walrus_module.specs.Parts.{Module, parts}
use Rattle.walrus_module_items.specs.Functions.{type_of}
use Rattle.walrus_module_items.specs.declared.function.Function.{Function}
use Rattle.walrus_module_items.specs.declared.function.FunctionKind.{FunctionKind}
use Rattle.walrus_module_items.specs.declared.function.FunctionKind.TheVariants as functions
use Rattle.walrus_meaning.specs.Bodies.{depth_of, local_ids, own_body, own_operators, used_locals}
use Rattle.walrus_meaning.specs.Meaning.{means, own_function, type_ids}
use Rattle.walrus_named_bodies.specs.Parsed.{IsReadAs, read_features}
use Rattle.walrus_parse_laws.specs.BodiesTexts.{naming, text_of}
use Rattle.walrus_parse_laws.specs.Locals.{typed}
use Rattle.walrus_parse_laws.specs.Meant.{picks, place_of}
use Rattle.walrus_parse_laws.specs.Means.{AreLocals, HasLocals, HasSequences, MeansFile, has_local, kind_types, param_types, types_in}
use Rattle.walrus_parse_laws.proofs.ItemsSlotLemmas.{each_at}
use Rattle.walrus_parse_gc_laws.specs.Numbered.{numbered, numbered_body, numbered_function, numbered_origin}
use Rattle.walrus_parse_gc_laws.specs.Ruled.{MeaningsAreMerged}
use Rattle.walrus_pass_laws.specs.Bodies.{parts_of}
use Rattle.walrus_pass_laws.specs.Locals.{type_of_local}
use Rattle.walrus_pass_laws.specs.Meant.{KeptIsMeant, function_parts, listed_data, listed_elements, meant}
use Rattle.walrus_pass_laws.specs.Served.{LinkedAreServed}
use Rattle.walrus_pass_laws.proofs.Sets.{In, contains_of, flat_in, in_cases, in_map, in_of}
use Rattle.walrus_kept_types_laws.specs.Read.{AreReadOf, HandlersAreLacking, ReadTypesAreRead}
use Rattle.walrus_kept_laws.specs.Alike.{KeptAlike, StandsFor}
use Rattle.walrus_kept_laws.specs.Seen.{SeenAsMeant}
use Rattle.walrus_kept_laws.proofs.Bare.{no_data, no_elements}
use Rattle.walrus_kept_laws.proofs.Bodies.{lists_alike}
use Rattle.walrus_kept_laws.proofs.Context as context
use Rattle.walrus_kept_laws.proofs.Fit.{OriginFits, read_fits}
use Rattle.walrus_kept_laws.proofs.Found.{get_front}
use Rattle.walrus_kept_laws.proofs.Functions.{ListsAlike, ops_same}
use Rattle.walrus_kept_laws.proofs.Given.{count_is, given, params_renamed, picks_same, start_at, type_known}
use Rattle.walrus_kept_laws.proofs.Left.{slot_at}
use Rattle.walrus_kept_laws.proofs.Locals.{in_filter, in_numbered, local_same, of_order}
use Rattle.walrus_kept_laws.proofs.Low.{AreLow, IsLow, element_low, flat_low, global_low, operator_low, segment_low, slot_low, table_low, tag_low, value_low}
use Rattle.walrus_kept_laws.proofs.Reach.{itself, kept_alike}
use Rattle.walrus_kept_laws.proofs.Refs.{LookAlike, stand_alike, there_is}
use Rattle.walrus_kept_laws.proofs.Sees.{sees_alike}
use Rattle.walrus_kept_laws.proofs.Types.{get_in, in_get}
use Rattle.walrus_kept_laws.proofs.Walk.{sent}

-- ---- lists of items

no_items : (ids : List ℕ) → ListsAlike ids [] []
no_items ids = record { forth = λ z i. absurd i; back = λ u i. absurd i }

-- behind an item that stands for itself
one_more : (ids : List ℕ) (x : grammar.Item) (xs ys : List grammar.Item) → StandsFor ids x x → ListsAlike ids xs ys → ListsAlike ids (x ∷ xs) (x ∷ ys)
one_more ids x xs ys own h = record {
  forth = λ z i. elim i as (λ _. (u : grammar.Item) × StandsFor ids z u × In (x ∷ ys) u) [ inl e ↦ (z, subst (λ (y : grammar.Item). StandsFor ids y y) e own, inl e) | inr j ↦ (let t = h.forth z j in (t.0, t.1, inr t.2)) ];
  back = λ u i. elim i as (λ _. (z : grammar.Item) × StandsFor ids z u × In (x ∷ xs) z) [ inl e ↦ (u, subst (λ (y : grammar.Item). StandsFor ids y y) e own, inl e) | inr j ↦ (let t = h.back u j in (t.0, t.1, inr t.2)) ];
}

-- ---- shapes

local_is : (x y : LocalFunction) → functions.Local x ≡ functions.Local y → x ≡ y
local_is x y e = cc

own_is : (x y : grammar.Body) → grammar.Own x ≡ grammar.Own y → x ≡ y
own_is x y e = cc

image_of : (f : grammar.Function → grammar.Function) (o : Option grammar.Function) (y : grammar.Function) → option_map f o ≡ Some y → (x : grammar.Function) × (o ≡ Some x) × (f x ≡ y)
image_of f None y e = absurd (none-some y e)
image_of f (Some x) y e = (x, refl, same_Some (f x) y e)

-- ---- the kinds of groups

in_groups : (groups : List TypeGroup) (ns : List ℕ) (g : TypeGroup × List ℕ) → In (references.numbered groups ns) g → In groups g.0
in_groups [] ns g h = absurd h
in_groups (x ∷ groups) ns g (inl e) = inl (ap (λ (p : TypeGroup × List ℕ). p.0) e)
in_groups (x ∷ groups) ns g (inr h) = inr (in_groups groups _ g h)

among : (xs : List ℕ) (j : ℕ) → In xs j → Among j xs
among [] j h = h
among (x ∷ xs) j (inl e) = inl e
among (x ∷ xs) j (inr h) = inr (among xs j h)

-- ---- what lives

apart : spaces.«Type» ≡ spaces.Memory → ⊥
apart e = cc

none_held : (x : Held) → Contains [] x → ⊥
none_held x c = omega (arith, c.1)

not_written : (o : Option TypeItem) → is_some (option_and_then (λ (x : TypeItem). shown_kind x.kind) o) ≡ false → IsSome (written o) → ⊥
not_written None e h = false≢true h
not_written (Some x) e h = by x.kind.entry e h
  where
    by : (b : Bool) → is_some (if b then None else Some x.kind) ≡ false → IsSome (if b then None else Some x) → ⊥
    by true e h = false≢true h
    by false e h = cc

-- ---- a module that was read

module _ {B : Type 0} (merged : MeaningsAreMerged B) (lacking : HandlersAreLacking) (read_types : ReadTypesAreRead B) (carries : ParsingCarriesSame) (behind : NewKindsStandBehind) (missing_new : MissingKindsAreNew)
    (missing : HandlersAreMissing) (same_is : SameKindIsEquality) (named : NamesAreRenamed) (plain : TextIsPlain) (nest : TreesAreNested) (back : OperatorComesBack) (nests : NormalNests) (spelled : AreSpelled)
    (brings : ReadModulesBringNoTypes) (kept_is : KeptIsMeant) (served : LinkedAreServed) (config : ModuleConfig) (bytes : List ℕ) (file : grammar.Module) (m : Whole B) (found : Ids) (small : All (λ b. b < 256) bytes)
    (is : IsReadAs config bytes m found) (reads : Reads (read_features config) bytes file) (means_file : MeansFile config file m found) (is_grouped : AreGrouped m.types) (keep : Bool) where
  abbrev features : WasmFeatures
  features = read_features config

  abbrev pm : Module
  pm = parts m

  abbrev there : grammar.Module
  there = numbered pm

  abbrev a : Around
  a = around_bodies features true there

  abbrev of_file : Around
  of_file = around_bodies features true file

  are : AreReadOf file m.types
  are = read_types config bytes m found file is reads means_file is_grouped

  abbrev ids : List ℕ
  ids = type_ids m.types

  abbrev count : ℕ
  count = context.count m.types file are

  below : GroupsBelow 0 file.groups
  below = means_file.ruled.groups

  abbrev s : ℕ → ℕ
  s = at (ids_of file.groups)

  is_merged : there ≡ merged_module place_of features true (handler_groups file) file
  is_merged = merged config file m found means_file ∙ ap (λ (more : List TypeGroup). merged_module place_of features true more file) (lacking file)

  tags_are : (means pm).tags ≡ map (option_map (retyped_tag s)) file.tags
  tags_are = ap (λ (x : grammar.Module). x.tags) is_merged

  -- ---- items with types of the file stand for themselves

  low_fixed : (z : grammar.Item) → IsLow count z → StandsFor ids z z
  low_fixed z h = by z.space refl
    where
      own : (p : Space) → z.space ≡ p → (p ≡ spaces.«Type» → ⊥) → StandsFor ids z z
      own p e other = itself ids z.space z.number (λ d. other (sym e ∙ d))

      by : (p : Space) → z.space ≡ p → StandsFor ids z z
      by spaces.«Type» e = context.fixed m.types file are z e (h e)
      by spaces.Function e = own spaces.Function e (λ d. absurd cc)
      by spaces.Table e = own spaces.Table e (λ d. absurd cc)
      by spaces.Memory e = own spaces.Memory e (λ d. absurd cc)
      by spaces.Tag e = own spaces.Tag e (λ d. absurd cc)
      by spaces.Global e = own spaces.Global e (λ d. absurd cc)
      by spaces.Element e = own spaces.Element e (λ d. absurd cc)
      by spaces.Data e = own spaces.Data e (λ d. absurd cc)
      by spaces.Local e = own spaces.Local e (λ d. absurd cc)
      by spaces.Label e = own spaces.Label e (λ d. absurd cc)

  -- ---- where the file has types

  module _ (some : 0 < count) where
    low : (n : ℕ) → s n < count
    low n = context.sent_low m.types file are carries below some n

    typed_low : (xs : List ValType) → ((ty : ValType) → In xs ty → (v : ValType) × (renamed_value s v ≡ ty)) → (n : ℕ) → AreLow count (local_items (slice_get xs n))
    typed_low xs h n = by (slice_get xs n) refl
      where
        by : (o : Option ValType) → slice_get xs n ≡ o → AreLow count (local_items o)
        by None e = λ y i. absurd i
        by (Some ty) e = (let v = h ty (get_in xs n ty e) in subst (λ (t : ValType). AreLow count (value_items t)) v.1 (value_low count s low v.0))

    -- ---- the function of a body

    module _ (n : ℕ) (f : Function) (at_f : item_at m.funcs n ≡ Some f) (local : LocalFunction) (kind : f.kind ≡ functions.Local local) (g : grammar.Function) (at_g : slice_index_or file.functions n None ≡ Some g)
        (x : grammar.Body) (origin : g.origin ≡ grammar.Own x) (ty : local.builder.ty ≡ s g.ty)
        (body : numbered_body (local_ids m.locals local) (own_body m.locals local) ≡ normal_renamed place_of of_file (by_types s) (param_count file g.ty) x) where
      abbrev pick : BlockType → BlockType
      pick = picks features file

      abbrev params : ℕ
      params = param_count file g.ty

      abbrev text : List Placed
      text = text_of x

      got : slice_get file.functions n ≡ Some (Some g)
      got = start_at file.functions n g at_g

      abbrev picked_text : List Placed
      picked_text = normal_ops (block_pick of_file) text

      abbrev keys : List Key
      keys = used_keys params (map (renamed_value s) x.locals) picked_text

      abbrev r : Renaming
      r = with_numbers (new_number params keys) (by_types s)

      abbrev lids : List ℕ
      lids = local_ids m.locals local

      abbrev number : ℕ → ℕ
      number = depth_of lids

      abbrev here : List grammar.Placed
      here = own_operators local

      abbrev to : Seen → Seen
      to o = renamed_operator r o

      abbrev codes : (o : Seen) → (to o).code ≡ o.code
      codes o = refl

      abbrev vl : ℕ → Option ValType
      vl = type_of_local m.locals

      abbrev given_types : List ValType
      given_types = kind_params (slice_get (types_of there) local.builder.ty)

      abbrev own_types : List ValType
      own_types = (own_body m.locals local).locals

      abbrev wl : ℕ → Option ValType
      wl k = slice_get (given_types ++ own_types) k

      -- ---- operators

      map_sent : (xs : List Placed) → map (renamed_placed r) (map (located place_of) xs) ≡ map (sent a to codes place_of) xs
      map_sent [] = refl
      map_sent (o ∷ xs) = ap (λ (l : List grammar.Placed). sent a to codes place_of o ∷ l) (map_sent xs)

      ops_are : map (renamed_placed (with_numbers number same)) here ≡ map (sent a to codes place_of) (flat (normal pick (tree_of text)))
      ops_are =
          ap (λ (y : grammar.Body). y.operators) body ∙ map_sent picked_text
          ∙ ap (λ (p : BlockType → BlockType). map (sent a to codes place_of) (flat (normal p (tree_of text)))) (picks_same features true false file)

      -- ---- locals

      type_there : (kind : Kind) × (slice_get (types_of file) g.ty ≡ Some kind)
      type_there = type_known (slice_get (types_of file) g.ty) (each_at (λ (z : grammar.Function). IsFunctionType file z.ty) file.functions n g means_file.ruled.linked.functions_typed at_g)

      kinds_are : types_of there ≡ kinds_of (kept_of file.groups) ++ kinds_of (handler_groups file)
      kinds_are = ap (λ (y : grammar.Module). types_of y) is_merged ∙ kinds_joined (kept_of file.groups) (handler_groups file)

      given_known : slice_get (types_of there) local.builder.ty ≡ Some (renamed_kind s type_there.0)
      given_known =
          ap (slice_get (types_of there)) ty ∙ ap (λ (l : List Kind). slice_get l (s g.ty)) kinds_are
          ∙ get_front (kinds_of (kept_of file.groups)) (kinds_of (handler_groups file)) (s g.ty) (renamed_kind s type_there.0) (kind_there carries file.groups below g.ty type_there.0 type_there.1)

      params_are : param_types file g.ty ≡ params_of type_there.0.form
      params_are = ap kind_types type_there.1

      given_is : given_types ≡ map (renamed_value s) (param_types file g.ty)
      given_is = ap kind_params given_known ∙ params_renamed s type_there.0 ∙ ap (map (renamed_value s)) (sym params_are)

      whole : IsWhole m.types (functions.Local local)
      whole = subst (IsWhole m.types) kind (means_file.linked.whole n f at_f)

      -- its type, by its id
      known : (k : Kind) × (slice_get (types_of there) local.builder.ty ≡ Some k) × ((y : TypeItem) × (type_at m.types local.builder.ty ≡ Some y) × (y.kind ≡ k))
      known = let h = context.id_at m.types file are local.builder.ty local.builder.ty (are.are.first local.builder.ty (subst (λ (k : ℕ). k < count) (sym ty) (low g.ty))) in (h.0, h.1, (h.2.ty, h.2.known, h.2.is))

      many : length local.args.items ≡ length given_types
      many =
          subst (λ (o : Option TypeItem). IfSome o (λ (y : TypeItem). length local.args.items ≡ length (params_of y.kind.form))) known.2.1 whole.0.counted
          ∙ ap (λ (k : Kind). length (params_of k.form)) known.2.2 ∙ ap (λ (o : Option Kind). length (kind_params o)) (sym known.1)

      many_params : length local.args.items ≡ length (param_types file g.ty)
      many_params = many ∙ ap length given_is ∙ length-map (param_types file g.ty) (renamed_value s)

      has_locals : HasLocals pm found pick n params x
      has_locals = means_file.locals n g x got origin

      same_local : local ≡ has_locals.local
      same_local = local_is local has_locals.local (sym kind ∙ ap (λ (y : Function). y.kind) (same_Some f has_locals.function (sym at_f ∙ has_locals.there)) ∙ has_locals.kind)

      lids_are : lids ≡ map (naming found n Locals) (range_with_len 0 (length (param_types file g.ty)) ++ map (λ (k : Key). k.1) (used_keys params (typed found x).locals (normal_ops pick text)))
      lids_are = ap (local_ids m.locals) same_local ∙ has_locals.ids
          ∙ ap (λ (k : ℕ). map (naming found n Locals) (range_with_len 0 k ++ map (λ (k : Key). k.1) (used_keys params (typed found x).locals (normal_ops pick text)))) (count_is (slice_get (types_of file) g.ty))

      typed_there : AreLocals m.locals (has_local found.all_locals (length (param_types file g.ty)) x) (found.locals n) (map (renamed_value s) (param_types file g.ty ++ x.locals))
      typed_there = subst (λ (l : List ℕ). AreLocals m.locals (has_local found.all_locals (length (param_types file g.ty)) x) (found.locals n) (map (renamed_value (at l)) (param_types file g.ty ++ x.locals))) means_file.types
          (means_file.typed_locals n g x got origin)

      args_given : (p id : ℕ) → slice_get local.args.items p ≡ Some id → (t : ValType) × (slice_get given_types p ≡ Some t) × (type_of_local m.locals id ≡ Some t)
      args_given p id e =
          let h = given m.locals found n s (param_types file g.ty) x.locals local.args.items (map (λ (k : Key). k.1) (used_locals m.locals local))
          (map (λ (k : Key). k.1) (used_keys params (typed found x).locals (normal_ops pick text)))
          (kept_by found.all_locals (length (param_types file g.ty)) (length x.locals) (map (λ (o : grammar.Placed). o.op) x.operators)) many_params lids_are typed_there p id e in
          (h.0, ap (λ (l : List ValType). slice_get l p) given_is ∙ h.1, h.2)

      locals_same : (id : ℕ) → In (flat_map (λ (o : grammar.Placed). operator_names o.op) here) (Locals, id) → wl (number id) ≡ vl id
      locals_same id c = local_same m.locals local given_types many args_given id c

      -- ---- types of locals are of the file

      own_low : (t : ValType) → In own_types t → (v : ValType) × (renamed_value s v ≡ t)
      own_low t i =
          let k = in_map (λ (k : Key). k.0) keys t (subst (λ (l : List ValType). In l t) (ap (λ (y : grammar.Body). y.locals) body) i) in
          let p : Key → Bool = λ k. is_used picked_text k.1 in
          let j = in_filter p k.0 (keyed params (map (renamed_value s) x.locals)) (of_order k.0 _ k.1) in
          let q = in_numbered params (map (renamed_value s) x.locals) k.0 j.1 in
          let v = in_map (renamed_value s) x.locals k.0.0 (get_in (map (renamed_value s) x.locals) q.0 k.0.0 q.2) in
          (v.0, v.2 ∙ k.2)

      all_low : (t : ValType) → In (given_types ++ own_types) t → (v : ValType) × (renamed_value s v ≡ t)
      all_low t i = elim (in_cases given_types own_types t i) as (λ _. (v : ValType) × (renamed_value s v ≡ t)) [
        | inl j ↦ (let v = in_map (renamed_value s) (param_types file g.ty) t (subst (λ (l : List ValType). In l t) given_is j) in (v.0, v.2))
        | inr j ↦ own_low t j
      ]

      names_low : AreLow count (flat_map (λ (o : grammar.Placed). names_items wl (operator_names o.op)) (map (renamed_placed (with_numbers number same)) here))
      names_low = subst (λ (l : List grammar.Placed). AreLow count (flat_map (λ (o : grammar.Placed). names_items wl (operator_names o.op)) l)) (sym ops_are)
          (flat_low count (λ (o : grammar.Placed). names_items wl (operator_names o.op)) (map (sent a to codes place_of) (flat (normal pick (tree_of text)))) one)
        where
          one : (o : grammar.Placed) → In (map (sent a to codes place_of) (flat (normal pick (tree_of text)))) o → AreLow count (names_items wl (operator_names o.op))
          one o i =
              let t = in_map (sent a to codes place_of) (flat (normal pick (tree_of text))) o i in
              subst (λ (y : grammar.Placed). AreLow count (names_items wl (operator_names y.op))) t.2 (operator_low count named r low wl (typed_low (given_types ++ own_types) all_low) t.0.op)

      fixed_names : (z : grammar.Item) → In (flat_map (λ (o : grammar.Placed). names_items vl (operator_names o.op)) here) z → StandsFor ids z z
      fixed_names z i = low_fixed z (names_low z (subst (λ (l : List grammar.Item). In l z) (ops_same named vl wl number here locals_same) i))

      -- ---- its text

      sequences : HasSequences file pm found pick n x
      sequences = means_file.sequences n g x got origin

      stands : StandsAs (meaning sequences.sight) (map seq_of (seqs_of local.builder)) (normal pick (tree_of text))
      stands =
          let same_seq : sequences.local ≡ local = local_is sequences.local local (sym sequences.kind ∙ ap (λ (y : Function). y.kind) (same_Some sequences.function f (sym sequences.there ∙ at_f)) ∙ kind) in
          subst (λ (l : LocalFunction). StandsAs (meaning sequences.sight) (map seq_of (seqs_of l.builder)) (normal pick (tree_of text))) same_seq sequences.stands

      fits : RunsFit features (normal pick (tree_of text))
      fits = subst (OriginFits pick features) origin (each_at (λ (z : grammar.Function). OriginFits pick features z.origin) file.functions n g (read_fits pick spelled features bytes file small reads) at_g)

      body_alike : ListsAlike ids (body_items vl here (parts_of (seqs_of local.builder))) (body_items wl (map (renamed_placed (with_numbers number same)) here) (parts_in a [] (map (renamed_placed (with_numbers number same)) here)))
      body_alike = lists_alike named plain nest back nests count (next_id (types_in file).table) ids m.types m.tags a sequences.sight r
          (sees_alike pm file found are carries below features missing_new behind missing same_is bytes reads some means_file.types means_file.others tags_are n sequences.sight sequences.sees (new_number params keys))
          features pick text fits local whole.1 stands place_of number vl wl ops_are locals_same fixed_names

    -- ---- each function

    abbrev OptionAlike : ℕ → Option Function → Type 0
    OptionAlike n o = ListsAlike ids (named_by (function_items (type_of_local m.locals) (function_parts o)) (option_map (own_function m.locals) o))
        (named_by (function_items (λ k. slice_get (slot_locals there (option_map (numbered_function m.locals) o)) k) (slot_parts a (option_map (numbered_function m.locals) o))) (option_map (numbered_function m.locals) o))

    functions_are : there.functions ≡ map (option_map (normal_function place_of of_file s)) file.functions
    functions_are = ap (λ (y : grammar.Module). y.functions) is_merged

    in_file : (n : ℕ) (f : Function) → item_at m.funcs n ≡ Some f → (g : grammar.Function) × (slice_index_or file.functions n None ≡ Some g) × (normal_function place_of of_file s g ≡ numbered_function m.locals f)
    in_file n f e = image_of (normal_function place_of of_file s) (slice_index_or file.functions n None) (numbered_function m.locals f)
        (sym (slot_at (normal_function place_of of_file s) file.functions n) ∙ ap (λ (l : List (Option grammar.Function)). slice_index_or l n None) (sym functions_are)
        ∙ slot_at (numbered_function m.locals) m.funcs.slots n ∙ ap (option_map (numbered_function m.locals)) e)

    own_type : (n : ℕ) (f : Function) (e : item_at m.funcs n ≡ Some f) → StandsFor ids (item spaces.«Type» (type_of f.kind)) (item spaces.«Type» (type_of f.kind))
    own_type n f e =
        let g = in_file n f e in
        low_fixed (item spaces.«Type» (type_of f.kind)) (λ d. subst (λ (k : ℕ). k < count) (ap (λ (y : grammar.Function). y.ty) g.2) (low g.0.ty))

    kind_alike : (n : ℕ) (f : Function) → item_at m.funcs n ≡ Some f → (kind : FunctionKind) → f.kind ≡ kind → StandsFor ids (item spaces.«Type» (type_of kind)) (item spaces.«Type» (type_of kind)) → OptionAlike n (Some (record f { kind = kind }))
    kind_alike n f e (functions.Import import) k own = one_more ids (item spaces.«Type» import.ty) [] [] own (no_items ids)
    kind_alike n f e (functions.Uninitialized ty) k own = one_more ids (item spaces.«Type» ty) [] [] own (no_items ids)
    kind_alike n f e (functions.Local local) k own =
        let g = in_file n f e in
        let origins : normal_origin place_of of_file s (param_count file g.0.ty) g.0.origin ≡ grammar.Own (numbered_body (local_ids m.locals local) (own_body m.locals local)) =
        ap (λ (y : grammar.Function). y.origin) g.2 ∙ ap (numbered_origin m.locals) k in
        by g.0 g.1 (ap (λ (y : grammar.Function). y.ty) g.2 ∙ ap type_of k) g.0.origin refl origins
      where
        by : (g : grammar.Function) → slice_index_or file.functions n None ≡ Some g → s g.ty ≡ local.builder.ty → (o : grammar.Origin grammar.Body) → g.origin ≡ o
            → normal_origin place_of of_file s (param_count file g.ty) o ≡ grammar.Own (numbered_body (local_ids m.locals local) (own_body m.locals local)) → OptionAlike n (Some (record f { kind = functions.Local local }))
        by g at_g ty (grammar.Imported i) o h = absurd (let z : ⊥ = cc in z)
        by g at_g ty (grammar.Own x) o h =
            one_more ids (item spaces.«Type» local.builder.ty) _ _ own
            (body_alike n f e local k g at_g x o (sym ty) (sym (own_is (normal_renamed place_of of_file (by_types s) (param_count file g.ty) x) (numbered_body (local_ids m.locals local) (own_body m.locals local)) h)))

    option_alike : (n : ℕ) (o : Option Function) → item_at m.funcs n ≡ o → OptionAlike n o
    option_alike n None e = no_items ids
    option_alike n (Some f) e = kind_alike n f e f.kind refl (own_type n f e)

    functions_alike : (n : ℕ) → ListsAlike ids (named_by (function_items (type_of_local m.locals) (function_parts (item_at m.funcs n))) (slot (means pm).functions n))
        (named_by (function_items (λ k. slice_get (slot_locals there (slot there.functions n)) k) (slot_parts a (slot there.functions n))) (slot there.functions n))
    functions_alike n =
        let o = item_at m.funcs n in
        subst (λ (z : Option grammar.Function). ListsAlike ids (named_by (function_items (type_of_local m.locals) (function_parts o)) (slot (means pm).functions n)) (named_by (function_items (λ k. slice_get (slot_locals there z) k) (slot_parts a z)) z))
        (sym (slot_at (numbered_function m.locals) m.funcs.slots n))
        (subst (λ (z : Option grammar.Function). ListsAlike ids (named_by (function_items (type_of_local m.locals) (function_parts o)) z)
        (named_by (function_items (λ k. slice_get (slot_locals there (option_map (numbered_function m.locals) o)) k) (slot_parts a (option_map (numbered_function m.locals) o))) (option_map (numbered_function m.locals) o)))
        (sym (slot_at (own_function m.locals) m.funcs.slots n)) (option_alike n o refl))

    -- ---- other items

    fixed_in : (p : Space) (n : ℕ) → (p ≡ spaces.Function → ⊥) → (p ≡ spaces.«Type» → ⊥) → (z : grammar.Item) → RefersIn (meant pm) p n z → StandsFor ids z z
    fixed_in spaces.«Type» n f t z h = absurd (t refl)
    fixed_in spaces.Function n f t z h = absurd (f refl)
    fixed_in spaces.Table n f t z (inl c) =
        low_fixed z (subst (λ (l : List (Option grammar.Table)). AreLow count (named_by table_items (slot l n))) (sym (ap (λ (y : grammar.Module). y.tables) is_merged)) (slot_low count table_items (retyped_table s) (table_low count named s low) file.tables n) z (in_of _ z c))
    fixed_in spaces.Table n f t z (inr c) = let h = there_is (slot (means pm).tables n) c in subst (λ (y : grammar.Item). StandsFor ids y y) (sym h.1) (itself ids spaces.Element h.0 (λ d. absurd cc))
    fixed_in spaces.Memory n f t z c = let h = there_is (slot (means pm).memories n) c in subst (λ (y : grammar.Item). StandsFor ids y y) (sym h.1) (itself ids spaces.Data h.0 (λ d. absurd cc))
    fixed_in spaces.Global n f t z c =
        low_fixed z (subst (λ (l : List (Option grammar.Global)). AreLow count (named_by global_items (slot l n))) (sym (ap (λ (y : grammar.Module). y.globals) is_merged)) (slot_low count global_items (retyped_global s) (global_low count named s low) file.globals n) z (in_of _ z c))
    fixed_in spaces.Tag n f t z c =
        low_fixed z (subst (λ (l : List (Option grammar.Tag)). AreLow count (named_by tag_items (slot l n))) (sym tags_are) (slot_low count tag_items (retyped_tag s) (tag_low count named s low) file.tags n) z (in_of _ z c))
    fixed_in spaces.Element n f t z c =
        low_fixed z (subst (λ (l : List (Option grammar.Element)). AreLow count (named_by element_items (slot l n))) (sym (ap (λ (y : grammar.Module). y.elements) is_merged)) (slot_low count element_items (retyped_element s) (element_low count named s low) file.elements n) z (in_of _ z c))
    fixed_in spaces.Data n f t z c =
        low_fixed z (subst (λ (l : List (Option grammar.Segment)). AreLow count (named_by segment_items (slot l n))) (sym (ap (λ (y : grammar.Module). y.segments) is_merged)) (slot_low count segment_items (retyped_segment s) (segment_low count named s low) file.segments n) z (in_of _ z c))
    fixed_in spaces.Local n f t z c = absurd c
    fixed_in spaces.Label n f t z c = absurd c

  -- ---- all of it

  abbrev Look : Type 0
  Look = LookAlike (means pm) there.functions ids (length (types_of there)) (λ f id. type_of_local m.locals id) (λ f n. slice_get (slot_locals there (slice_index_or there.functions f None)) n)
      (λ f. function_parts (item_at m.funcs f)) (λ f. slot_parts a (slice_index_or there.functions f None)) (λ t. listed_elements (item_at m.tables t)) (λ x. listed_data (item_at m.memories x)) keep

  abbrev Reached : Space → ℕ → Type 0
  Reached p n = IsReached (meant pm) keep [] (item p n)

  no_types : (e : ℕ) (x : grammar.Export) → slot (means pm).exports e ≡ Some x → x.item.space ≡ spaces.«Type» → ⊥
  no_types e x at = each_at (λ (y : grammar.Export). y.item.space ≡ spaces.«Type» → ⊥) file.exports e x (brings features bytes file reads).exports (ap (λ (y : grammar.Module). slot y.exports e) (sym is_merged) ∙ at)

  kinds_fixed : (group : TypeGroup × List ℕ) (kind : Kind) (id : ℕ) → IsType (meant pm) id group kind → (z : grammar.Item) → Contains (map (item spaces.«Type») (kind_names kind)) z → StandsFor ids z z
  kinds_fixed group kind id is z c =
      let g = in_groups (means pm).groups ids group (in_of _ group is.listed) in
      let k = in_get (types_of there) kind (flat_in (λ (y : TypeGroup). y.kinds) (means pm).groups group.0 kind g (get_in group.0.kinds is.place kind is.known)) in
      let j = in_map (item spaces.«Type») (kind_names kind) z (in_of _ z c) in
      let lt : j.0 < count = context.kinds_low m.types file are k.0 kind k.1 j.0 (among (kind_names kind) j.0 j.1) in
      low_fixed z (λ d. subst (λ (n : ℕ). n < count) (ap (λ (y : grammar.Item). y.number) j.2) lt)

  with_types : 0 < count → Look
  with_types some = record {
    once = context.once_ids m.types file are;
    counts = context.kinds_many m.types file are;
    no_elements = no_elements config bytes m found is;
    no_data = no_data config bytes m found is;
    given = no_types;
    fixed = λ p n f t r z h. fixed_in some p n f t z h;
    kinds = λ id group kind r is z c. kinds_fixed group kind id is z c;
    functions_forth = λ n r z c. (let t = (functions_alike some n).forth z (in_of _ z c) in (t.0, t.1, contains_of _ t.0 t.2));
    functions_back = λ n r u c. (let t = (functions_alike some n).back u (in_of _ u c) in (t.0, t.1, contains_of _ t.0 t.2));
  }

  -- ---- where it has none

  abbrev kept_pm : Module
  kept_pm = record pm { config = record pm.config { keep_segments = keep } }

  linked : IsLinked kept_pm
  linked = record {
    imports = means_file.linked.imports;
    imported = means_file.linked.imported;
    whole = means_file.linked.whole;
    named = means_file.linked.named;
    grouped = means_file.linked.grouped;
    exported = means_file.linked.exported;
    started = means_file.linked.started;
  }

  lives : (id : ℕ) → Reached spaces.«Type» id → IsSome (written_type m.types id)
  lives id r =
      let k = (kept_is kept_pm [] linked is_grouped (λ x c. absurd (none_held x c)) (held spaces.«Type» id) (λ e. absurd cc)).1 (inl r) in
      elim k as (λ _. IsSome (written_type m.types id)) [
        | inl h ↦ ((served kept_pm [] linked).pushing_live (λ x c. absurd (none_held x c))).live (held spaces.«Type» id) h
        | inr p ↦ absurd (apart (ap (λ (x : Held). x.space) p.is))
      ]

  module _ (none : (id : ℕ) → is_written m.types id ≡ false) where
    unreached : (id : ℕ) → Reached spaces.«Type» id → ⊥
    unreached id r = not_written (type_at m.types id) (none id) (lives id r)

    fixed_none : (x z : grammar.Item) → IsReached (meant pm) keep [] x → references.Refers (meant pm) x z → StandsFor ids z z
    fixed_none x z r h = low_fixed z (λ d. absurd (unreached z.number (subst (λ (p : Space). Reached p z.number) d (refers r h))))

    no_function : (n : ℕ) (f : grammar.Function) → Reached spaces.Function n → slot (means pm).functions n ≡ Some f → ⊥
    no_function n f r e =
        unreached f.ty (refers r (subst (λ (o : Option grammar.Function). Contains (named_by (function_items (type_of_local m.locals) (function_parts (item_at m.funcs n))) o) (item spaces.«Type» f.ty)) (sym e)
        (contains_of (function_items (type_of_local m.locals) (function_parts (item_at m.funcs n)) f) (item spaces.«Type» f.ty) (inl refl))))

    no_slot : (n : ℕ) → Reached spaces.Function n → item_at m.funcs n ≡ None
    no_slot n r = by (item_at m.funcs n) refl
      where
        by : (o : Option Function) → item_at m.funcs n ≡ o → item_at m.funcs n ≡ None
        by None e = e
        by (Some f) e = absurd (no_function n (own_function m.locals f) r (slot_at (own_function m.locals) m.funcs.slots n ∙ ap (option_map (own_function m.locals)) e))

    none_named : (items : grammar.Function → List grammar.Item) (o : Option grammar.Function) (z : grammar.Item) → o ≡ None → Contains (named_by items o) z → ⊥
    none_named items o z e c = in_of [] z (subst (λ (x : Option grammar.Function). Contains (named_by items x) z) e c)

    without_types : Look
    without_types = record {
      once = context.once_ids m.types file are;
      counts = context.kinds_many m.types file are;
      no_elements = no_elements config bytes m found is;
      no_data = no_data config bytes m found is;
      given = no_types;
      fixed = λ p n f t r z h. fixed_none (item p n) z r h;
      kinds = λ id group kind r is z c. absurd (unreached id r);
      functions_forth = λ n r z c. absurd (none_named _ (slot (means pm).functions n) z (slot_at (own_function m.locals) m.funcs.slots n ∙ ap (option_map (own_function m.locals)) (no_slot n r)) c);
      functions_back = λ n r u c. absurd (none_named _ (slot there.functions n) u (slot_at (numbered_function m.locals) m.funcs.slots n ∙ ap (option_map (numbered_function m.locals)) (no_slot n r)) c);
    }

  look : Look
  look = elim (are.sent 0) as (λ _. Look) [ inl lt ↦ with_types (omega (arith, lt)) | inr none ↦ without_types none ]

  looks : KeptAlike ids (meant pm) (seen_as features there) keep []
  looks = kept_alike ids look.once (meant pm) (seen_as features there) keep []
      (stand_alike (means pm) there.functions ids (length (types_of there)) (λ f id. type_of_local m.locals id) (λ f n. slice_get (slot_locals there (slice_index_or there.functions f None)) n)
      (λ f. function_parts (item_at m.funcs f)) (λ f. slot_parts a (slice_index_or there.functions f None)) (λ t. listed_elements (item_at m.tables t)) (λ x. listed_data (item_at m.memories x)) keep look)

pub seen_meant : {B : Type 0} → MeaningsAreMerged B → HandlersAreLacking → ReadTypesAreRead B → ParsingCarriesSame → NewKindsStandBehind → MissingKindsAreNew → HandlersAreMissing → SameKindIsEquality → NamesAreRenamed → TextIsPlain → TreesAreNested
    → OperatorComesBack → NormalNests → AreSpelled → ReadModulesBringNoTypes → KeptIsMeant → LinkedAreServed → SeenAsMeant B
seen_meant merged lacking read_types carries behind missing_new missing same_is named plain nest back nests spelled brings kept_is served config bytes file m found small is reads means_file is_grouped keep =
    looks merged lacking read_types carries behind missing_new missing same_is named plain nest back nests spelled brings kept_is served config bytes file m found small is reads means_file is_grouped keep
