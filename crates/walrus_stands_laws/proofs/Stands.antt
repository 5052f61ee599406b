-- Lemmas: what is written of a module that was read stands for its file.
use Rattle.std.specs.Prelude.{ℕ, ◌≡◌, true, List, [], ◌∷◌, length, map, Option, Some, None, refl}
use Rattle.std.specs.Option.{option_map}
use Rattle.std.proofs.Common.{ap, sym, ◌∙◌, subst}
use Rattle.walrus_config.specs.declared.config.ModuleConfig.{ModuleConfig}
use Rattle.walrus_forms.specs.Records.{TypeGroup}
use Rattle.walrus_forms.specs.Renaming.{index_at}
use Rattle.walrus_index_maps.specs.Maps.{Ids}
use Rattle.walrus_items.specs.declared.local.Local.{Local}
use Rattle.walrus_types.specs.Emission.{IsEmission}
use Rattle.walrus_types.specs.Table.{Table}
use Rattle.walrus_types.specs.declared.emit.EmittedTypes.{EmittedTypes}
use Rattle.walrus_module.specs.Parts.{Module as Parts, parts}
use Rattle.walrus_module.specs.declared.module.Module.{Module}
use Rattle.walrus_module_items.specs.declared.function.Function.{Function}
use Rattle.walrus_module_items.specs.declared.function.FunctionKind.{FunctionKind}
use Rattle.walrus_module_items.specs.declared.function.FunctionKind.TheVariants as kinds
use Rattle.walrus_meaning.specs.Meaning.{means, type_ids}
use Rattle.walrus_named_bodies.specs.Parsed.{read_features}
use Rattle.walrus_emit.specs.Left.{Declares}
use Rattle.walrus_emit_numbers.specs.Undeclared.{undeclared_of}
use Rattle.walrus_emit_numbers.specs.declared.facts.BodyFacts.{BodyFacts}
use Rattle.walrus_parse_laws.specs.Meant.{place_of}
use Rattle.walrus_pass_laws.specs.Meant.{meant}
use Rattle.walrus_parse_gc_laws.specs.Numbered.{numbered, numbered_function, numbered_origin}
use Rattle.walrus_parse_gc_laws.specs.Ruled.{MeaningsAreMerged}
use Rattle.walrus_plan_laws.specs.Plans.{living, plan_of}
use Rattle.walrus_code_laws.specs.Numbered as code_numbered
use Rattle.walrus_code_laws.specs.Parts as code
use Rattle.walrus_kept_laws.specs.Alike.{KeptAlike}
use Rattle.walrus_kept_laws.specs.Kept.{ListsJust, PlansHaveKept}
use Rattle.walrus_kept_laws.specs.Stay.{NumberedLeft, PartsStay}
use Rattle.walrus_kept_types_laws.specs.Placed.{place_among, placed_indices}
use Rattle.walrus_kept_types_laws.specs.Read.{HandlersAreLacking}
use Rattle.walrus_kept_types_laws.specs.Written.{AreLeft, WritesTypes, are_left}
use Rattle.walrus_declared_laws.specs.Emitted.{plan_with}
use Rattle.walrus_declared_laws.specs.Retyped.{retyped_plan}
use Rattle.walrus_declared_laws.specs.Standing as standing
use Rattle.walrus_declared_laws.specs.Standing.{EmittedPartsStand, file_plan, merged_file}
use Rattle.wasm_grammar.specs.Modules as grammar
use Rattle.wasm_merged_modules.specs.Merged.{merged_module}
use Rattle.wasm_operators.specs.Items.{Functions, Types, Labels, Locals}
use Rattle.wasm_operators.specs.Names.{Renaming}
use Rattle.wasm_part.specs.Agree.{AgreeOn}
use Rattle.wasm_part.specs.Closed.{Rise}
use Rattle.wasm_part.specs.Handlers.{handler_groups}
use Rattle.wasm_part.specs.Kept.{HasKept}
use Rattle.wasm_part.specs.Part.{Plan, part}
use Rattle.wasm_part.specs.Seen.{file_seen, seen_as}
use Rattle.wasm_part.specs.Stands.{Stands}
use Rattle.wasm_part.specs.Written.{WritesKept}
use Rattle.wasm_references.specs.References.{Numbered}
use Rattle.wasm_rewritten.specs.Ruled.{ReadFilesArePicked}
use Rattle.wasm_module_bytes.specs.Bytes.{without_places}
use Rattle.walrus_stands_laws.specs.Declared.{DeclaredAreKept}
use Rattle.walrus_stands_laws.specs.Listed.{DeclaringPlansListLiving, ListsLiving, PlansListLiving}
use Rattle.walrus_stands_laws.specs.Placed.{IsPlaced, KeptPlansArePlaced}
use Rattle.walrus_stands_laws.specs.Stands.{EmissionsStandForFiles, IsLeft, NumberedIsOne, StandsForFile, plan_in_file, types_in_file}
use Rattle.walrus_stands_laws.specs.Types.{LeftTypesAreListed, ListsTypes}

-- ---- one numbering of locals

module _ (locals : List Local) where
  origin_same : (kind : FunctionKind) → code_numbered.numbered_origin locals kind ≡ numbered_origin locals kind
  origin_same (kinds.Import i) = refl
  origin_same (kinds.Local local) = refl
  origin_same (kinds.Uninitialized ty) = refl

  slots_same : (slots : List (Option Function)) → map (option_map (code_numbered.numbered_function locals)) slots ≡ map (option_map (numbered_function locals)) slots
  slots_same [] = refl
  slots_same (None ∷ slots) = ap (λ (l : List (Option grammar.Function)). None ∷ l) (slots_same slots)
  slots_same (Some f ∷ slots) =
      let first = origin_same f.kind in
      let rest : map (option_map (code_numbered.numbered_function locals)) slots ≡ map (option_map (numbered_function locals)) slots = slots_same slots in
      λ i. Some (record { ty = (code_numbered.numbered_function locals f).ty; origin = first i }) ∷ rest i

pub numbered_is_one : NumberedIsOne
numbered_is_one m = ap (λ (fs : List (Option grammar.Function)). record (means m) { functions = fs }) (slots_same m.locals m.funcs.slots)

-- ---- the plan that adds the segment

renames_same : (fs : List ℕ) (old : Parts) (q : Plan) → (plan_with fs old q).renames ≡ q.renames
renames_same [] old q = refl
renames_same (n ∷ ns) old q = refl

groups_same : (fs : List ℕ) (old : Parts) (q : Plan) → (plan_with fs old q).groups ≡ q.groups
groups_same [] old q = refl
groups_same (n ∷ ns) old q = refl

exports_same : (fs : List ℕ) (old : Parts) (q : Plan) → (plan_with fs old q).exports ≡ q.exports
exports_same [] old q = refl
exports_same (n ∷ ns) old q = refl

-- types are as they were
types_same : (fs : List ℕ) (old new : Parts) → Declares fs old new → new.types ≡ old.types
types_same [] old new d = ap (λ (x : Parts). x.types) d
types_same (n ∷ ns) old new d = ap (λ (x : Parts). x.types) d.0

-- ---- what lives is listed

lists_just : (ids : List ℕ) (n : Parts) (q : Plan) (f : ℕ → ℕ) (types : List ℕ) → ListsLiving q (numbered n) → ListsTypes ids n.types types f → ListsJust ids n (record (retyped_plan f types q) { declared = [] })
lists_just ids n q f types h t = record {
  items = record {
    imports = h.items.imports;
    functions = h.items.functions;
    tables = h.items.tables;
    memories = h.items.memories;
    tags = h.items.tags;
    globals = h.items.globals;
    exports = h.items.exports;
    elements = h.items.elements;
    segments = h.items.segments;
  };
  imports = h.living.imports;
  functions = h.living.functions;
  tables = h.living.tables;
  memories = h.living.memories;
  tags = h.living.tags;
  globals = h.living.globals;
  exports = h.living.exports;
  elements = h.living.elements;
  segments = h.living.segments;
  types = t.each;
  only_types = t.only;
  declared = tt;
}

-- ---- what is kept is written

module _ (v : Numbered) (t : Table) (p : Plan) (indices : List (Option ℕ)) where
  writes_kept : {keep : _} → HasKept v keep [] p → WritesTypes v t p.groups indices (p.listed Types) → p.renames Types ≡ index_at indices → IsPlaced p → Rise p.exports
      → ((n : ℕ) → p.renames Labels n ≡ n) → ((n : ℕ) → p.renames Locals n ≡ n) → WritesKept v keep [] t p
  writes_kept kept w index placed exports labels locals = record {
    kept = kept;
    indices = indices;
    emitted = w.emitted;
    types = w.types;
    index = index;
    known = w.known;
    grouped = w.grouped;
    once = w.once;
    only = placed.only;
    globals = placed.globals;
    exports = exports;
    labels = labels;
    locals = locals;
  }

module _ {B : Type 0} (stand_so : EmittedPartsStand B) (numbered_left : NumberedLeft) (stay : PartsStay) (have_kept : PlansHaveKept B) (lacking : HandlersAreLacking) (merged : MeaningsAreMerged B) (picked : ReadFilesArePicked)
    (place_plans : KeptPlansArePlaced) (declare : DeclaredAreKept) (list_types : LeftTypesAreListed) (list_living : PlansListLiving B) (list_declaring : DeclaringPlansListLiving)
    (config : ModuleConfig) (bytes : List ℕ) (file : grammar.Module) (found : Ids) (read kept left : Module B) (facts : List BodyFacts) (order : List ℕ) (emitted : EmittedTypes)
    (h : IsLeft config bytes file found read kept left facts order emitted) where
  abbrev fs : List ℕ
  fs = undeclared_of kept facts

  abbrev q : Plan
  q = plan_of left facts order emitted

  abbrev q1 : Plan
  q1 = plan_with fs (parts kept) q

  abbrev ids : List ℕ
  ids = type_ids read.types

  abbrev p : Plan
  p = plan_in_file config bytes file found read kept left facts order emitted

  abbrev t : Table
  t = types_in_file config bytes file found read kept left facts order emitted

  abbrev m : grammar.Module
  m = merged_file config file

  abbrev v : Numbered
  v = file_seen place_of (read_features config) (handler_groups file) file

  is_merged : numbered (parts read) ≡ m
  is_merged = merged config file read found h.means ∙ ap (λ (more : List TypeGroup). merged_module place_of (read_features config) true more file) (lacking file)

  types_are : left.types ≡ kept.types
  types_are = types_same fs (parts kept) (parts left) h.declares

  types_left : AreLeft read.types kept.types
  types_left = are_left _ read.types kept.types h.part.types

  emission : IsEmission kept.types q.groups emitted.indices
  emission = subst (λ (x : Table). IsEmission x q.groups emitted.indices) types_are h.types.groups

  lists : ListsLiving q1 (numbered (parts kept))
  lists = list_declaring (parts kept) (parts left) fs h.declares q (record { items = list_living left facts order emitted h.plan; living = h.plan.serves.lives }) (living (means (parts left)).imports) refl

  agree : AgreeOn q1 m (numbered (parts kept))
  agree = subst (λ (x : grammar.Module). AgreeOn q1 x (numbered (parts kept))) is_merged (stay (parts read) (parts kept) [] q1 h.part lists.items).agree

  sized : length m.functions ≡ length (numbered (parts kept)).functions
  sized = sym (ap (λ (x : grammar.Module). length x.functions) is_merged) ∙ sym (numbered_left (parts read) (parts kept) [] h.part).functions.sized

  stood : standing.Stands config bytes file found read kept facts (parts left) q emitted.indices
  stood = stand_so config bytes file found read kept facts (parts left) q emitted.indices (record {
    is_read = h.is_read;
    reads = h.reads;
    meant = h.means;
    ruled = (picked place_of (read_features config) bytes file h.reads).0;
    grouped = h.grouped;
    still = h.still;
    types_left = types_left;
    known = h.known;
    declares = h.declares;
    lists = h.plan.serves.lives;
    ordered = h.plan.serves.order;
    no_more = refl;
    imports = living (means (parts left)).imports;
    segments = refl;
    emitted = emission;
    inverse = h.types.ids;
    numbers = h.plan.types;
    agree = agree;
    sized = sized;
  })

  -- ---- what is kept

  keeps : read.config.keep_segments ≡ config.keep_segments
  keeps = ap (λ (c : ModuleConfig). c.keep_segments) h.is_read.0

  alike : KeptAlike ids (meant (parts read)) (seen_as (read_features config) (numbered (parts read))) read.config.keep_segments []
  alike = subst (λ (b : _). KeptAlike ids (meant (parts read)) (seen_as (read_features config) (numbered (parts read))) b []) (sym keeps) h.alike

  kept_but : HasKept v config.keep_segments [] (record p { declared = [] })
  kept_but =
      subst (λ (b : _). HasKept v b [] (record p { declared = [] })) keeps
      (have_kept config file read found h.means h.grouped h.sound alike (parts kept) h.part (record p { declared = [] })
      (lists_just ids (parts kept) q1 (index_at (placed_indices ids emitted.indices)) (map (place_among ids) (q.listed Types)) lists
      (list_types read.types kept.types h.grouped h.still types_left q.groups emitted.indices emitted.ids.items emission h.types.ids)))

  has_kept : HasKept v config.keep_segments [] p
  has_kept = declare v config.keep_segments [] p kept_but stood.declared

  placed : IsPlaced p
  placed = place_plans place_of (read_features config) bytes (handler_groups file) file h.reads config.keep_segments [] p has_kept stood.order

  renamed : q1.renames ≡ q.renames
  renamed = renames_same fs (parts kept) q

  writes : WritesKept v config.keep_segments [] t p
  writes =
      writes_kept v t p (placed_indices ids emitted.indices) has_kept
      (subst (λ (g : List TypeGroup). WritesTypes v t g (placed_indices ids emitted.indices) (p.listed Types)) (sym (groups_same fs (parts kept) q)) stood.types)
      refl placed
      (subst Rise (sym (exports_same fs (parts kept) q)) h.plan.serves.exports)
      (λ n. ap (λ (r : Renaming). r Labels n) renamed)
      (λ n. ap (λ (r : Renaming). r Locals n) renamed)

  same : part q (code.numbered (parts left)) ≡ part p m
  same = ap (λ (x : grammar.Module). part q x) (numbered_is_one (parts left)) ∙ stood.same

  stands : (n : grammar.Module) → without_places n ≡ record (without_places (part q (code.numbered (parts left)))) { customs = n.customs } → Stands place_of config.keep_segments (read_features config) file n t p
  stands n is = record {
    writes = writes;
    ordered = stood.order;
    declared = stood.declared;
    whole = is ∙ ap (λ (x : grammar.Module). record (without_places x) { customs = n.customs }) same;
  }

  stands_for_file : StandsForFile config bytes file found read kept left facts order emitted
  stands_for_file = record {
    writes = writes;
    ordered = stood.order;
    declared = stood.declared;
    same = same;
    functions = λ i n e. placed.only Functions i n tt e;
    stands = stands;
  }

pub emissions_stand : {B : Type 0} → EmittedPartsStand B → NumberedLeft → PartsStay → PlansHaveKept B → HandlersAreLacking → MeaningsAreMerged B → ReadFilesArePicked → KeptPlansArePlaced → DeclaredAreKept
    → LeftTypesAreListed → PlansListLiving B → DeclaringPlansListLiving → EmissionsStandForFiles B
emissions_stand a b c d e f g i j k l n config bytes file found read kept left facts order emitted h = stands_for_file a b c d e f g i j k l n config bytes file found read kept left facts order emitted h
