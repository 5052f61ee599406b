-- Lemmas: no handler lacks a type, so where a body is refused its reading stops.
use Rattle.std.proofs.Common.{◌≡◌, ◌∙◌, ◌⊎◌, inl, inr, ℕ, ◌+◌, ◌≤◌, Bool, true, false, List, [], ◌∷◌, Option, Some, None, Result, Ok, Err, refl, sym, ap, subst, if◌then◌else◌}
use Rattle.std.specs.Option.{option_and_then, option_map}
use Rattle.std.specs.Prelude.{MatchOption, fold, slice_get}
use Rattle.wasm_features.specs.declared.WasmFeatures.{WasmFeatures}
use Rattle.wasm_reader.specs.Cursor.{Cursor, IsWithin, end_of, rest}
use Rattle.walrus_forms.proofs.EqLemmas.{same-kind-law}
use Rattle.walrus_forms.specs.declared.value.ValType.{ValType}
use Rattle.walrus_forms.specs.Forms.{Form, FunctionForm, StructForm, ArrayForm}
use Rattle.walrus_forms.specs.Kinds.{Kind, function_kind}
use Rattle.walrus_forms.specs.Same.{same_kind}
use Rattle.walrus_module_env.proofs.walrus_types.LawLemmas.{latest-law}
use Rattle.walrus_module_env.specs.walrus_body_parser.walrus_body_stack.walrus_instr.walrus_types.Items.{Item}
use Rattle.walrus_module_env.specs.walrus_body_parser.walrus_body_stack.walrus_instr.walrus_types.Table.{Table, found_type, type_at}
use Rattle.walrus_module_env.specs.walrus_body_parser.walrus_body_stack.walrus_instr.walrus_types.TypeLaws.{IsLatest}
use Rattle.walrus_function_types.specs.FunctionTypes.{form_params, form_results, params_at, results_at}
use Rattle.walrus_index_maps.specs.Maps.{Ids}
use Rattle.walrus_module_env.proofs.walrus_function_parser.Bodies.{parsers_agree, sees_more}
use Rattle.walrus_module_env.proofs.walrus_function_parser.Stopping.{causes}
use Rattle.walrus_module_env.specs.walrus_body_parser.walrus_body_stack.walrus_body_env.declared.error.BodyError.{BodyError}
use Rattle.walrus_module_env.specs.walrus_body_parser.walrus_body_stack.walrus_body_env.declared.error.BodyError.TheVariants as faults
use Rattle.walrus_module_env.specs.walrus_body_parser.walrus_body_rules.Sights.{Sight, block_of, function_block, handler_of, look, results_of, tag_params, value_block, value_list, written_block}
use Rattle.walrus_module_env.specs.walrus_body_parser.walrus_body_rules.wasm_body_grammar.Bodies.{Point, Run, body, is_closed, next_total}
use Rattle.walrus_module_env.specs.walrus_body_parser.wasm_operators.Operators.{Seen}
use Rattle.walrus_module_env.specs.walrus_body_parser.walrus_body_rules.wasm_body_grammar.Rules.{Around}
use Rattle.walrus_module_env.specs.walrus_body_parser.wasm_operators.Items.{Types}
use Rattle.walrus_module_env.specs.walrus_body_parser.wasm_operators.declared.block_type.BlockType.{BlockType}
use Rattle.walrus_module_env.specs.walrus_body_parser.wasm_operators.declared.block_type.BlockType.TheVariants as blocks
use Rattle.walrus_module_env.specs.walrus_body_parser.walrus_body_stack.walrus_instr.BlockTypes.{picked}
use Rattle.walrus_module_env.specs.walrus_body_parser.walrus_body_stack.walrus_instr.declared.seq.InstrSeqType.{InstrSeqType}
use Rattle.walrus_module_env.specs.walrus_body_parser.walrus_body_stack.walrus_instr.declared.seq.InstrSeqType.TheVariants.{Simple, MultiValue}
use Rattle.walrus_module_env.specs.walrus_body_parser.walrus_body_rules.walrus_pairing.Types.{read_value}
use Rattle.walrus_module_env.specs.walrus_body_parser.walrus_body_rules.walrus_pairing.declared.error.PairError.{PairError}
use Rattle.walrus_module_env.specs.walrus_body_parser.walrus_body_stack.walrus_instr.walrus_types.walrus_items.declared.local.Local.{Local}
use Rattle.walrus_module_env.specs.declared.env.ModuleEnv.{ModuleEnv}
use Rattle.walrus_module_env.specs.Around.{sight_in}
use Rattle.walrus_module_env.specs.Env.{if_own, is_own, tag_type_at}
use Rattle.walrus_module_env.specs.Parsed.{FilesAreSeen}
use Rattle.walrus_module_env.specs.walrus_body_parser.Changes.{LacksType}
use Rattle.walrus_module_env.specs.walrus_body_parser.Points.{op_told, place_at}
use Rattle.walrus_module_env.specs.walrus_body_parser.Trees as trees
use Rattle.walrus_module_env.specs.walrus_body_parser.Trees.{FailOps, IsDue, Parser, parser_of, point_of}
use Rattle.walrus_module_env.specs.walrus_collections.walrus_local_function.walrus_body_locals.Locals.{Leaves, run_told}
use Rattle.walrus_module_env.specs.walrus_collections.walrus_local_function.walrus_body_locals.Told.{Fails as Refused}
use Rattle.walrus_module_env.specs.walrus_collections.walrus_module_items.declared.tag.Tag.{Tag}
use Rattle.walrus_module_env.specs.walrus_collections.walrus_local_function.walrus_function_parser.Parsed.{Bars, IsAround, IsCause, IsRefused, Lacks, Refuses, StopsFor, Telling}
use Rattle.walrus_module_env.specs.Handled.{SeesAside}
use Rattle.walrus_module_bodies.specs.Reading.{IsBodyFault, TagsStand}
use Rattle.walrus_module_bodies.proofs.AsideLemmas.{sees_aside}
use Rattle.walrus_module_bodies.proofs.StepLemmas.{formed}

same_type : (x y : InstrSeqType) → ◌≡◌ {A = Option InstrSeqType} (Some x) (Some y) → x ≡ y
same_type x y e = cc

-- ---- the results of what is picked for parameters and results

found_results : (t : Table) (params results : List ValType) (id : ℕ) → found_type params results t ≡ Some id → results_at t id ≡ Some results
found_results t params results id e =
    let wanted = function_kind params results in
    let last = subst (λ (o : Option ℕ). MatchOption o ((k : ℕ) (x : Item) → type_at t k ≡ Some x → same_kind x.kind wanted ≡ false) (IsLatest (λ x. same_kind x.1.kind wanted) t)) e (latest-law t (λ x. same_kind x.1.kind wanted)) in
    ap (option_and_then (λ (item : Item). form_results item.kind.form)) last.live ∙ ap (λ (k : Kind). form_results k.form) ((same-kind-law last.item.kind wanted).0 last.passes)

own_picked : (own : ℕ) (o : Option InstrSeqType) (ty : InstrSeqType) → if_own own o ≡ Some ty → o ≡ Some ty
own_picked own None ty e = absurd cc
own_picked own (Some x) ty e = go (is_own own x) e
  where
    go : (b : Bool) → (if b then Some x else None) ≡ Some ty → ◌≡◌ {A = Option InstrSeqType} (Some x) (Some ty)
    go true e = e
    go false e = absurd cc

abbrev pub list_or : Option (List ValType) → List ValType
list_or None = []
list_or (Some l) = l

some_handler : (s : Sight) → ((a b : List ValType) → s.handler_type a b ≡ Some (Simple None)) → (p r : Option (List ValType)) (a b : List ValType) → p ≡ Some a → r ≡ Some b → handler_of s p r ≡ None → ⊥
some_handler s all p r a b p_is r_is e =
    let first = subst (λ (x : Option (List ValType)). handler_of s x r ≡ None) p_is e in
    let both = subst (λ (x : Option (List ValType)). handler_of s (Some a) x ≡ None) r_is first in
    absurd (let none = sym (all a b) ∙ both in cc)

-- who accepts each run, each operator and the end gives no fault
quiet : {V : Type 0} (s : Sight) (told : Telling V) (params code : ℕ) (old : Cursor) (fault : BodyError) → ((v : V) (offset : ℕ) (r : Run) → (run_told told.run v offset r).0 ≡ None)
    → ((v : V) (offset : ℕ) (op : Seen) → (told.rest.op v offset op).0 ≡ None) → ((v : V) (offset : ℕ) → (told.rest.finish v offset).0 ≡ None) → Bars s told params code old fault → ⊥
quiet s told params code old fault run op finish (inl (v, offset, r, is)) = absurd (let x = sym (run v offset r) ∙ is in cc)
quiet s told params code old fault run op finish (inr (inl (v, offset, o, is))) = absurd (let x = sym (op v offset o) ∙ is in cc)
quiet s told params code old fault run op finish (inr (inr (v, offset, is))) = absurd (let x = sym (finish v offset) ∙ is in cc)

-- behind these operators the next one is refused, or the end
module _ {V : Type 0} (told : Telling V) (parser : Parser) (end place : ℕ) (ops : List (ℕ × Seen)) (later : List ℕ) (left w : V) (fault : BodyError) where
  abbrev point : Point
  point = point_of parser told.rest end place ops

  abbrev HasFailed : Type 0
  HasFailed = IsDue parser told.rest end place point later × Refused (parser point) (op_told told.rest.op) end left later w fault

  abbrev HasEnded : Type 0
  HasEnded = (later ≡ []) × (is_closed point.frames ≡ true) × (told.rest.finish left end ≡ (Some fault, w))

is_memory : (fault : BodyError) → (fault ≡ faults.Memory) ⊎ (fault ≡ faults.Memory → ⊥)
is_memory faults.Memory = inl refl
is_memory (faults.Read e) = inr (λ m. absurd (let x = m in cc))
is_memory (faults.Index space offset) = inr (λ m. absurd (let x = m in cc))
is_memory (faults.TypeForm offset) = inr (λ m. absurd (let x = m in cc))
is_memory (faults.Nesting offset) = inr (λ m. absurd (let x = m in cc))
is_memory (faults.Position offset) = inr (λ m. absurd (let x = m in cc))
is_memory (faults.Operator offset) = inr (λ m. absurd (let x = m in cc))
is_memory (faults.Unsupported form offset) = inr (λ m. absurd (let x = m in cc))
is_memory (faults.Bounds offset) = inr (λ m. absurd (let x = m in cc))
is_memory (faults.Limit of offset) = inr (λ m. absurd (let x = m in cc))
is_memory faults.NoTree = inr (λ m. absurd (let x = m in cc))

-- ---- a module's sight with some type for each handler, and the same with results for all ids

module _ (e : ModuleEnv) (function : ℕ) (h : List ValType → List ValType → Option InstrSeqType) (all : (ps rs : List ValType) → h ps rs ≡ Some (Simple None)) where
  abbrev types : Table
  types = e.types.now

  abbrev some_for : Ids → Sight
  some_for i = record (sight_in e function i) { handler_type = h }

  abbrev total : ℕ → Option (List ValType)
  total id = Some (list_or (results_at types id))

  abbrev total_for : Ids → Sight
  total_for i = record (sight_in e function i) { results = total; handler_type = h }

  -- a block that an operator opens has results
  picked_results : (i : Ids) (ps rs : List ValType) (ty : InstrSeqType) → picked ps rs types ≡ Some ty → (l : List ValType) × (results_of (some_for i) ty ≡ Some l)
  picked_results i [] [] ty is = ([], ap (results_of (some_for i)) (sym (same_type (Simple None) ty is)))
  picked_results i [] (r ∷ []) ty is = (r ∷ [], ap (results_of (some_for i)) (sym (same_type (Simple (Some r)) ty is)))
  picked_results i [] (r ∷ x ∷ rs) ty is = found (found_type [] (r ∷ x ∷ rs) types) refl is
    where
      found : (o : Option ℕ) → found_type [] (r ∷ x ∷ rs) types ≡ o → option_map MultiValue o ≡ Some ty → (l : List ValType) × (results_of (some_for i) ty ≡ Some l)
      found None got is = absurd cc
      found (Some id) got is = (r ∷ x ∷ rs, ap (results_of (some_for i)) (sym (same_type (MultiValue id) ty is)) ∙ found_results types [] (r ∷ x ∷ rs) id got)
  picked_results i (p ∷ ps) rs ty is = found (found_type (p ∷ ps) rs types) refl is
    where
      found : (o : Option ℕ) → found_type (p ∷ ps) rs types ≡ o → option_map MultiValue o ≡ Some ty → (l : List ValType) × (results_of (some_for i) ty ≡ Some l)
      found None got is = absurd cc
      found (Some id) got is = (rs, ap (results_of (some_for i)) (sym (same_type (MultiValue id) ty is)) ∙ found_results types (p ∷ ps) rs id got)

  listed_results : (i : Ids) (ps rs : Option (List ValType)) (ty : InstrSeqType) → block_of (some_for i) ps rs ≡ Some ty → (l : List ValType) × (results_of (some_for i) ty ≡ Some l)
  listed_results i None rs ty is = absurd cc
  listed_results i (Some ps) None ty is = absurd cc
  listed_results i (Some ps) (Some rs) ty is = picked_results i ps rs ty (own_picked e.own_types (picked ps rs types) ty is)

  function_results : (i : Ids) (o : Option ℕ) (ty : InstrSeqType) → function_block (some_for i) o ≡ Some ty → (l : List ValType) × (results_of (some_for i) ty ≡ Some l)
  function_results i None ty is = absurd cc
  function_results i (Some id) ty is = listed_results i (params_at types id) (results_at types id) ty is

  value_results : (i : Ids) (r : Result ValType PairError) (ty : InstrSeqType) → value_block r ≡ Some ty → (l : List ValType) × (results_of (some_for i) ty ≡ Some l)
  value_results i (Ok x) ty is = (x ∷ [], ap (results_of (some_for i)) (sym (same_type (Simple (Some x)) ty is)))
  value_results i (Err x) ty is = absurd cc

  written_results : (i : Ids) (written : BlockType) (ty : InstrSeqType) → written_block (some_for i) written ≡ Some ty → (l : List ValType) × (results_of (some_for i) ty ≡ Some l)
  written_results i blocks.Empty ty is = ([], ap (results_of (some_for i)) (sym (same_type (Simple None) ty is)))
  written_results i (blocks.Value v) ty is = value_results i (read_value (look (some_for i) Types) v) ty is
  written_results i (blocks.Type n) ty is = function_results i (look (some_for i) Types n) ty is

  all_results : (i : Ids) (ty : InstrSeqType) → (l : List ValType) × (results_of (total_for i) ty ≡ Some l)
  all_results i (Simple ty) = (value_list ty, refl)
  all_results i (MultiValue id) = (list_or (results_at types id), refl)

  -- the parameters of a tag
  tag_lists : (i : Ids) → TagsStand e.tags.now types i → (n tag : ℕ) → slice_get i.tags n ≡ Some tag → (ps : List ValType) × (tag_params (some_for i) (tag_type_at e.tags.now tag) ≡ Some ps)
  tag_lists i tags n tag is =
      let it = tags n tag is in
      let lists = formed types it.0.ty it.2 in
      (lists.params, ap (tag_params (some_for i)) (ap (option_map (λ (x : Tag). x.ty)) it.1) ∙ lists.params_are)

  not_some : (i : Ids) → TagsStand e.tags.now types i → (ty : InstrSeqType) (op : Seen) (l : List ValType) → results_of (some_for i) ty ≡ Some l → LacksType (some_for i) ty op → ⊥
  not_some i tags ty op l r (inl lacks) =
      let ps = tag_lists i tags lacks.1 lacks.2 lacks.4 in
      some_handler (some_for i) all (tag_params (some_for i) (tag_type_at e.tags.now lacks.2)) (results_of (some_for i) ty) ps.0 l ps.1 r lacks.5
  not_some i tags ty op l r (inr lacks) = some_handler (some_for i) all (Some []) (results_of (some_for i) ty) [] l refl r lacks.1

  not_total : (i : Ids) → TagsStand e.tags.now types i → (ty : InstrSeqType) (op : Seen) → LacksType (total_for i) ty op → ⊥
  not_total i tags ty op (inl lacks) =
      let ps = tag_lists i tags lacks.1 lacks.2 lacks.4 in
      let r = all_results i ty in
      some_handler (total_for i) all (tag_params (some_for i) (tag_type_at e.tags.now lacks.2)) (results_of (total_for i) ty) ps.0 r.0 ps.1 r.1 lacks.5
  not_total i tags ty op (inr lacks) = let r = all_results i ty in some_handler (total_for i) all (Some []) (results_of (total_for i) ty) [] r.0 refl r.1 lacks.1

  -- results for all ids change no block type
  alike : (i : Ids) (id : ℕ) → block_of (sight_in e function i) (params_at types id) (total id) ≡ block_of (sight_in e function i) (params_at types id) (results_at types id)
  alike i id = item (type_at types id)
    where
      form : (f : Form) → block_of (sight_in e function i) (form_params f) (Some (list_or (form_results f))) ≡ block_of (sight_in e function i) (form_params f) (form_results f)
      form (FunctionForm ps rs) = refl
      form (StructForm fields) = refl
      form (ArrayForm field) = refl

      item : (o : Option Item) → block_of (sight_in e function i) (option_and_then (λ (x : Item). form_params x.kind.form) o) (Some (list_or (option_and_then (λ (x : Item). form_results x.kind.form) o)))
          ≡ block_of (sight_in e function i) (option_and_then (λ (x : Item). form_params x.kind.form) o) (option_and_then (λ (x : Item). form_results x.kind.form) o)
      item None = refl
      item (Some x) = form x.kind.form

  -- ---- a refusal

  module _ {V : Type 0} (told : Telling V) (params code : ℕ) (old : Cursor) (i j : Ids) (tags : TagsStand e.tags.now types j) (ls ms : List Local) (v w : V) (fault : BodyError) (a : Around)
      (around : IsAround (sight_in e function i) old.window.features params a) where
    abbrev features : WasmFeatures
    features = old.window.features

    some_around : IsAround (some_for i) features params a
    some_around = record { features_are = around.features_are; sees = sees_aside (sight_in e function i) (results_at types) h (λ id. refl) a params around.sees }

    total_around : IsAround (total_for i) features params a
    total_around = record { features_are = around.features_are; sees = sees_aside (sight_in e function i) total h (alike i) a params around.sees }

    fails_total : (parser : Parser) (place : ℕ) (left : V) (bytes : List ℕ) → FailOps parser told.rest (end_of old) place (some_for j) left bytes w fault → FailOps parser told.rest (end_of old) place (total_for j) left bytes w fault
    fails_total parser place left bytes f = record { ops = f.ops; later = f.later; left = f.left; passed = f.passed; fails = go f.fails }
      where
        go : HasFailed told parser (end_of old) place f.ops f.later f.left w fault ⊎ (trees.Lacks parser told.rest (end_of old) place (some_for j) f.ops f.later fault × (w ≡ f.left)) ⊎ HasEnded told parser (end_of old) place f.ops f.later f.left w fault
            → HasFailed told parser (end_of old) place f.ops f.later f.left w fault ⊎ (trees.Lacks parser told.rest (end_of old) place (total_for j) f.ops f.later fault × (w ≡ f.left)) ⊎ HasEnded told parser (end_of old) place f.ops f.later f.left w fault
        go (inl x) = inl x
        go (inr (inl (x, kept))) = let r = written_results j x.opens.0 x.inner.ty x.opens.3 in absurd (not_some j tags x.inner.ty x.op.1 r.0 r.1 x.lacks)
        go (inr (inr x)) = inr (inr x)

    refuses_total : Refuses (some_for i) told params code old ls ms j v w fault → Refuses (total_for i) told params code old ls ms j v w fault
    refuses_total (inl x) = inl x
    refuses_total (inr x) =
        let rs = x.begins.declares.runs in
        let some = sees_more (some_for i) a params rs x.begins.declares.kept ls ms j some_around.sees x.begins.declares.adds in
        let whole = sees_more (total_for i) a params rs x.begins.declares.kept ls ms j total_around.sees x.begins.declares.adds in
        let parsers : parser_of features (some_for j) ≡ parser_of features (total_for j) =
        parsers_agree (some_for j) features a (fold next_total params rs) around.features_are some ∙ sym (parsers_agree (total_for j) features a (fold next_total params rs) around.features_are whole) in
        inr (record {
          mid = x.mid;
          left = x.left;
          begins = record { declares = x.begins.declares; moves = x.begins.moves };
          fails = subst (λ (p : Parser). FailOps p told.rest (end_of old) (place_at code x.mid) (total_for j) x.left (rest x.mid) w fault) parsers
              (fails_total (parser_of features (some_for j)) (place_at code x.mid) x.left (rest x.mid) x.fails);
        })

    pub stops_for : IsWithin old → code ≤ old.window.start + old.position → ((v : V) (offset : ℕ) (r : Run) → (run_told told.run v offset r).0 ≡ None)
        → ((v : V) (offset : ℕ) (op : Seen) → (told.rest.op v offset op).0 ≡ None) → ((v : V) (offset : ℕ) → (told.rest.finish v offset).0 ≡ None)
        → (fault ≡ faults.Memory → ⊥) → Refuses (some_for i) told params code old ls ms j v w fault → StopsFor (total_for i) told params code old a fault
    stops_for within begins run op finish other refused = go (causes (total_for i) told params code old ls ms j v w fault within begins (inr (refuses_total refused)))
      where
        cause : StopsFor (total_for i) told params code old a fault ⊎ Bars (total_for i) told params code old fault ⊎ Lacks (total_for i) told params code old j fault → StopsFor (total_for i) told params code old a fault
        cause (inl x) = x
        cause (inr (inl x)) = absurd (quiet (total_for i) told params code old fault run op finish x)
        cause (inr (inr (offset, ty, op, lacks, is))) = absurd (not_total j tags ty op lacks)

        go : (fault ≡ faults.Memory) ⊎ IsCause (total_for i) told params code old j fault → StopsFor (total_for i) told params code old a fault
        go (inl m) = absurd (other m)
        go (inr h) = cause (h a total_around)

-- ---- what the call answers

pub body_fault : FilesAreSeen → (e : ModuleEnv) (function : ℕ) (i j : Ids) (s : Sight) → SeesAside s (sight_in e function i) → ((ps rs : List ValType) → s.handler_type ps rs ≡ Some (Simple None))
    → {V : Type 0} (told : Telling V) (params code : ℕ) → code ≡ e.code_start → (old : Cursor) (ls ms : List Local) (v w : V) (fault : BodyError) → TagsStand e.tags.now e.types.now i → Leaves function ls ms i j
    → IsWithin old → code ≤ old.window.start + old.position → ((v : V) (offset : ℕ) (r : Run) → (run_told told.run v offset r).0 ≡ None)
    → ((v : V) (offset : ℕ) (op : Seen) → (told.rest.op v offset op).0 ≡ None) → ((v : V) (offset : ℕ) → (told.rest.finish v offset).0 ≡ None)
    → IsRefused s told params code old ls ms j v w fault → (fault ≡ faults.Memory) ⊎ IsBodyFault e function params old i fault
body_fault seen e function i j s aside all told params code codes old ls ms v w fault tags leaves within begins run op finish refusal = go refusal
  where
    later : TagsStand e.tags.now e.types.now j
    later = subst (TagsStand e.tags.now e.types.now) (sym leaves.named) tags

    stops : Refuses s told params code old ls ms j v w fault → (fault ≡ faults.Memory → ⊥) → IsBodyFault e function params old i fault
    stops refused other a filed =
        let it = stops_for e function s.handler_type all told params code old i j later ls ms v w fault a (seen e i function params old.window.features a filed) within begins run op finish other
        (subst (λ (x : Sight). Refuses x told params code old ls ms j v w fault) aside refused) in
        (it.0, subst (λ (n : ℕ). (body a params (place_at n old)).parse (rest old) ≡ Err it.0) codes it.1, it.2)

    refuses : Refuses s told params code old ls ms j v w fault → (fault ≡ faults.Memory) ⊎ (fault ≡ faults.Memory → ⊥) → (fault ≡ faults.Memory) ⊎ IsBodyFault e function params old i fault
    refuses refused (inl m) = inl m
    refuses refused (inr other) = inr (stops refused other)

    go : IsRefused s told params code old ls ms j v w fault → (fault ≡ faults.Memory) ⊎ IsBodyFault e function params old i fault
    go (inl m) = inl m.0
    go (inr refused) = refuses refused (is_memory fault)
