-- Lemmas: bodies that were read hold no exact heap type, nor do the locals that they add.
use Rattle.std.proofs.Common.{subst, sym}
use Rattle.std.specs.List.{AllByRecursion}
use Rattle.std.specs.Option.{option_map, option_or}
use Rattle.std.specs.Prelude.{if◌then◌else◌, Bool, List, None, Option, Some, [], false, fold, length, map, refl, suc, true, ℕ, ◌+◌, ◌∷◌, ◌≡◌}
use Rattle.walrus_parse_laws.specs.walrus_named_bodies.walrus_file_bodies.walrus_items_into.walrus_module_env.walrus_body_parser.walrus_body_locals.Locals.{Adds, AddsKept, locals_from}
use Rattle.walrus_parse_laws.specs.walrus_named_bodies.walrus_file_bodies.walrus_items_into.walrus_module_env.walrus_body_parser.walrus_body_locals.Named.{kept_by, kept_of}
use Rattle.walrus_parse_laws.specs.walrus_named_bodies.walrus_file_bodies.walrus_items_into.walrus_module_env.walrus_handler_types.walrus_body_steps.walrus_body_nesting.Opens.{same}
use Rattle.walrus_parse_laws.specs.walrus_named_bodies.walrus_file_bodies.walrus_items_into.walrus_module_env.walrus_handler_types.walrus_body_steps.walrus_body_nesting.Stands.{StandsAs}
use Rattle.walrus_parse_laws.specs.walrus_named_bodies.walrus_file_bodies.walrus_items_into.walrus_module_env.walrus_body_parser.walrus_body_rules.Sights.{Sight}
use Rattle.walrus_parse_laws.specs.walrus_named_bodies.walrus_file_bodies.walrus_items_into.walrus_module_env.walrus_handler_types.walrus_body_steps.Meanings.{meaning}
use Rattle.walrus_parse_laws.specs.walrus_body_trees.Laws.{ops_of}
use Rattle.walrus_parse_laws.specs.walrus_named_bodies.walrus_file_bodies.walrus_items_into.walrus_module_env.walrus_handler_types.walrus_tree.walrus_builder.Built.{contents, seq_of}
use Rattle.walrus_parse_laws.specs.walrus_named_bodies.walrus_file_bodies.walrus_items_into.walrus_module_env.walrus_handler_types.walrus_tree.walrus_builder.Functions.{seqs_of}
use Rattle.walrus_parse_laws.specs.walrus_named_bodies.walrus_file_bodies.Read.{Waits, env_is, env_of, grows_none, read_body_reads, step_filed, step_is_read, step_on, steps_grow}
use Rattle.walrus_parse_laws.specs.walrus_pairing.walrus_forms.Renaming.{at, renamed_value}
use Rattle.walrus_parse_laws.specs.walrus_pairing.walrus_forms.declared.value.ValType.{ValType}
use Rattle.walrus_function_types.specs.Growth.{EntryTypesGrow, FoundTypesStay, Grows, TablesGrowOn}
use Rattle.walrus_parse_laws.specs.walrus_named_bodies.walrus_file_bodies.walrus_items_into.walrus_functions_into.declared.bodies.FunctionBody.{FunctionBody}
use Rattle.walrus_parse_laws.proofs.walrus_named_bodies.walrus_handler_types.Growing.{params_grow}
use Rattle.walrus_parse_laws.specs.walrus_pairing.walrus_index_maps.Maps.{Ids}
use Rattle.walrus_marks.specs.walrus_instr.BlockTypes.{picked, short_form}
use Rattle.walrus_marks.specs.walrus_instr.declared.seq.InstrSeqType.TheVariants.{Simple, MultiValue}
use Rattle.walrus_marks.specs.walrus_instr.declared.seq.InstrSeqType.{InstrSeqType}
use Rattle.walrus_parse_laws.specs.walrus_pairing.walrus_items.declared.local.Local.{Local}
use Rattle.walrus_parse_laws.specs.walrus_named_bodies.walrus_file_bodies.walrus_items_into.walrus_functions_into.walrus_types_into.walrus_known_sections.Items.{chunk_of}
use Rattle.walrus_parse_laws.specs.walrus_named_bodies.walrus_file_bodies.walrus_module_bodies.Reading.{AddsRuns}
use Rattle.walrus_parse_laws.specs.walrus_named_bodies.walrus_file_bodies.walrus_module_bodies.Steps.{IsStep, State, Steps, cursor_of}
use Rattle.walrus_parse_laws.specs.walrus_named_bodies.walrus_file_bodies.walrus_module_bodies.declared.file.FileEnv.{FileEnv}
use Rattle.walrus_parse_laws.specs.walrus_named_bodies.walrus_file_bodies.walrus_items_into.walrus_module_env.Around.{sight_in}
use Rattle.walrus_parse_laws.specs.walrus_named_bodies.walrus_file_bodies.walrus_items_into.walrus_module_env.Env.{if_own, is_own}
use Rattle.walrus_parse_laws.specs.walrus_named_bodies.walrus_file_bodies.walrus_items_into.walrus_module_env.Parsed.{IsRead, PicksAreSeen}
use Rattle.walrus_parse_laws.specs.walrus_named_bodies.walrus_file_bodies.walrus_items_into.walrus_module_env.declared.env.ModuleEnv.{ModuleEnv}
use Rattle.walrus_parse_laws.specs.walrus_named_bodies.walrus_file_bodies.walrus_items_into.walrus_module_env.walrus_collections.walrus_module_items.Functions.{type_of}
use Rattle.walrus_parse_laws.specs.walrus_pairing.Laws.{OperatorComesBack}
use Rattle.walrus_parse_laws.proofs.PickLemmas.{stands_as_written}
use Rattle.walrus_parse_laws.proofs.walrus_body_laws.walrus_body_trees.Bodies.{AreSpelled, all_front, one_fits}
use Rattle.walrus_parse_gc_laws.proofs.InstrLemmas.{IsFine, Knows}
use Rattle.walrus_parse_gc_laws.proofs.LaidLemmas.{body_inexact}
use Rattle.walrus_parse_gc_laws.proofs.InexactTextLemmas.{joined}
use Rattle.walrus_parse_gc_laws.proofs.TreeLemmas.{normal_is}
use Rattle.walrus_parse_gc_laws.proofs.TypeLemmas.{IsPlain, params_plain, results_plain}
use Rattle.walrus_parse_gc_laws.proofs.ValueLemmas.{InexactType, some_is, values_renamed}
use Rattle.walrus_pass_laws.specs.walrus_refusals.Written.{BodyHasNone}
use Rattle.walrus_marks.specs.walrus_instr.walrus_types.Table.{Table, found_type}
use Rattle.walrus_parse_laws.specs.walrus_named_bodies.walrus_file_bodies.walrus_items_into.walrus_module_env.walrus_handler_types.walrus_body_steps.wasm_body_grammar.Bodies.{Parts, Point, body, body_of, declared, next_point, next_total, opened, operator_in, placed}
use Rattle.walrus_parse_laws.specs.walrus_named_bodies.walrus_file_bodies.walrus_items_into.walrus_module_env.walrus_handler_types.walrus_body_steps.wasm_body_grammar.Rules.{Around}
use Rattle.walrus_parse_laws.specs.walrus_named_bodies.walrus_file_bodies.walrus_items_into.walrus_module_env.walrus_body_parser.wasm_operators.wasm_features.declared.WasmFeatures.{WasmFeatures}
use Rattle.walrus_parse_laws.specs.walrus_named_bodies.walrus_file_bodies.walrus_items_into.wasm_sections.wasm_grammar.wasm_formats.Formats.{Small}
use Rattle.walrus_parse_laws.specs.walrus_named_bodies.walrus_file_bodies.walrus_items_into.wasm_sections.wasm_grammar.wasm_formats.Lists.{SpellsEntries}
use Rattle.walrus_parse_laws.specs.walrus_named_bodies.walrus_file_bodies.walrus_items_into.wasm_sections.wasm_grammar.Modules as grammar
use Rattle.wasm_inexact_modules.specs.Inexact.{InexactBody, InexactOperator, InexactValue, InexactValues, ReadBodiesAreInexact}
use Rattle.walrus_parse_laws.specs.walrus_named_bodies.walrus_file_bodies.walrus_items_into.walrus_module_env.walrus_handler_types.walrus_body_steps.wasm_normal_form.Normal.{normal}
use Rattle.walrus_parse_laws.specs.walrus_named_bodies.walrus_file_bodies.walrus_items_into.walrus_module_env.walrus_handler_types.walrus_body_steps.wasm_normal_form.Trees.{tree_of}
use Rattle.walrus_parse_laws.specs.walrus_named_bodies.walrus_file_bodies.walrus_items_into.walrus_module_env.walrus_body_parser.wasm_operators.Operators.{Seen}
use Rattle.walrus_parse_laws.specs.walrus_named_bodies.walrus_file_bodies.walrus_items_into.walrus_module_env.wasm_run_names.Picks.{block_pick}
use Rattle.walrus_parse_laws.specs.walrus_named_bodies.walrus_file_bodies.walrus_items_into.wasm_sections.Within.{ChunksFit}

-- ---- locals

abbrev pub InexactLocals : List Local → Type 0
InexactLocals ls = AllByRecursion (λ (l : Local). InexactValue l.ty) ls

from_inexact : (first : ℕ) (tys : List ValType) → InexactValues tys → InexactLocals (locals_from first tys)
from_inexact first [] h = tt
from_inexact first (ty ∷ tys) h = (h.0, from_inexact (suc first) tys h.1)

adds_inexact : (function : ℕ) (tys : List ValType) (ls ms : List Local) (i j : Ids) → Adds function tys ls ms i j → InexactValues tys → InexactLocals ls → InexactLocals ms
adds_inexact function tys ls ms i j h new before =
    subst InexactLocals (sym h.added) (joined (λ (l : Local). InexactValue l.ty) ls (locals_from (length ls) tys) before (from_inexact (length ls) tys new))

kept_inexact : (kept : List Bool) (tys : List ValType) → InexactValues tys → InexactValues (kept_of kept tys)
kept_inexact [] tys h = tt
kept_inexact (k ∷ kept) [] h = tt
kept_inexact (true ∷ kept) (ty ∷ tys) h = (h.0, kept_inexact kept tys h.1)
kept_inexact (false ∷ kept) (ty ∷ tys) h = kept_inexact kept tys h.1

keeps_inexact : (function : ℕ) (kept : List Bool) (tys : List ValType) (ls ms : List Local) (i j : Ids) → AddsKept function kept tys ls ms i j → InexactValues tys → InexactLocals ls → InexactLocals ms
keeps_inexact function kept tys ls ms i j h new before =
    subst InexactLocals (sym h.added)
    (joined (λ (l : Local). InexactValue l.ty) ls (locals_from (length ls) (kept_of kept tys)) before (from_inexact (length ls) (kept_of kept tys) (kept_inexact kept tys new)))

-- ---- operators fit

module _ (spelled : AreSpelled) (a : Around) where
  -- each is inexact, and fits its code
  ops_fine : (locals place : ℕ) (ops : List (ℕ × Seen)) (p : Point) (bytes : List ℕ) → Small bytes → SpellsEntries next_point (operator_in a locals) p bytes ops
      → AllByRecursion (λ (o : grammar.Placed). InexactOperator o.op) (placed place ops) → AllByRecursion (λ (o : grammar.Placed). IsFine a.features o.op) (placed place ops)
  ops_fine locals place [] p bytes small s h = tt
  ops_fine locals place (x ∷ ops) p bytes small s h =
      let both = all_front s.0 s.1 (subst Small s.2 small) in
      ((h.0, one_fits spelled a locals p s.0 x both.0 s.3), ops_fine locals x.0 ops (next_point p x) s.1 both.1 s.4 h.1)

  body_fine : (params place : ℕ) (bytes : List ℕ) (parts : Parts) → Small bytes → (body a params place).spells bytes parts → InexactBody (body_of parts)
      → AllByRecursion (λ (o : grammar.Placed). IsFine a.features o.op) (body_of parts).operators
  body_fine params place bytes parts small spells h =
      let both = all_front spells.0 spells.1 (subst Small spells.2 small) in
      ops_fine (fold next_total params parts.0.1) parts.0.0 parts.1 (opened parts.0.0) spells.1 both.1 spells.4 h.1

-- ---- block types that a table finds

own_picked : (own : ℕ) (o : Option InstrSeqType) (ty : InstrSeqType) → if_own own o ≡ Some ty → o ≡ Some ty
own_picked own None ty e = absurd cc
own_picked own (Some t) ty e = go (is_own own t) e
  where
    go : (c : Bool) → (if c then Some t else None) ≡ Some ty → Some t ≡ Some ty
    go true e = e
    go false e = absurd cc

short_inexact : (ps rs : List ValType) (ty : InstrSeqType) → short_form ps rs ≡ Some ty → InexactValues rs → InexactType ty
short_inexact [] [] ty e h = subst InexactType (some_is (Simple None) ty e) tt
short_inexact [] (v ∷ []) ty e h = subst InexactType (some_is (Simple (Some v)) ty e) h.0
short_inexact [] (v ∷ (w ∷ rs)) ty e h = absurd cc
short_inexact (p ∷ ps) rs ty e h = absurd cc

picked_inexact : (t : Table) (ps rs : List ValType) (ty : InstrSeqType) → picked ps rs t ≡ Some ty → InexactValues rs → InexactType ty
picked_inexact t ps rs ty e h = go (short_form ps rs) refl e
  where
    found : (o : Option ℕ) → option_or None (option_map MultiValue o) ≡ Some ty → InexactType ty
    found None e = absurd cc
    found (Some id) e = subst InexactType (some_is (MultiValue id) ty e) tt

    go : (o : Option InstrSeqType) → short_form ps rs ≡ o → option_or o (option_map MultiValue (found_type ps rs t)) ≡ Some ty → InexactType ty
    go None is e = found (found_type ps rs t) e
    go (Some s) is e = subst InexactType (some_is s ty e) (short_inexact ps rs s is h)

-- ---- bodies, one after another

module _ (stay : FoundTypesStay) (on : TablesGrowOn) (enter : EntryTypesGrow) (back : OperatorComesBack) (spelled : AreSpelled) (seen : PicksAreSeen) (inexact : ReadBodiesAreInexact)
    (file : FileEnv) (features : WasmFeatures) (a : Around) (count : ℕ → ℕ) (final : Table) (plain : IsPlain final) where
  knows : (function : ℕ) (i : Ids) → Knows (sight_in (env_of file final) function i)
  knows function i = record {
    results = λ id rs e. results_plain final plain id rs e;
    blocks_are = λ ps rs ty e h. picked_inexact final ps rs ty (own_picked file.own_types (picked ps rs final) ty e) h;
    handlers_are = λ ps rs ty e h. picked_inexact final ps rs ty e h;
  }

  module _ (b : FunctionBody) (bs : List FunctionBody) (old new : State) (small : Small b.chunk.bytes.now) (w : Waits file features a count old (b ∷ bs)) (s : IsStep file features b old new) (grows : Grows new.types final) where
    abbrev mid_env : ModuleEnv
    mid_env = env_of file s.mid

    it : (r : IsRead (env_of file new.types) b.number (length s.params) (cursor_of file features b) new.ids (contents s.body.builder.builder) a) × (length (new.ids.locals b.number) ≡ length s.params + length (declared r.runs))
        × AddsRuns b.number (length s.params) r.runs r.ops s.named new.locals s.numbered new.ids
    it = s.read mid_env (env_of file new.types) new.types (env_is file s.mid) (grows_none new.types) (env_is file new.types) a (step_filed stay on enter file features a count b bs old new w s mid_env (env_is file s.mid))

    was_read : InexactBody (body_of ((it.0.place, it.0.runs), it.0.ops))
    was_read = inexact a (length s.params) b.chunk.place b.chunk.bytes.now (body_of ((it.0.place, it.0.runs), it.0.ops))
        (read_body_reads stay on enter file features a count b (env_of file new.types) (length s.params) new.ids (contents s.body.builder.builder) it.0 refl small)

    own_params : InexactValues s.params
    own_params = params_plain final plain (type_of s.item.kind) s.params (params_grow old.types final (on old.types new.types final s.grown grows) (type_of s.item.kind) s.params s.params_are)

    pub step_locals : InexactLocals old.locals → InexactLocals new.locals
    step_locals before =
        let first = adds_inexact b.number s.params old.locals s.named old.ids s.numbered s.arguments own_params before in
        let kept = kept_by s.numbered.all_locals (length s.params) (length (declared it.0.runs)) (map (λ (x : ℕ × Seen). x.1) it.0.ops) in
        keeps_inexact b.number kept (map (renamed_value (at s.numbered.types)) (declared it.0.runs)) s.named new.locals s.numbered new.ids it.2 (values_renamed (at s.numbered.types) (declared it.0.runs) was_read.0) first

    pub step_body : BodyHasNone (seqs_of s.body.builder)
    step_body =
        let e = env_of file final in
        let read = step_is_read stay on enter file features a count b bs old new w s e final grows (env_is file final) in
        let parts : Parts = ((read.place, read.runs), read.ops) in
        let rules = (body a (length s.params) _).found b.chunk.bytes.now parts small read.read in
        let own = inexact a (length s.params) b.chunk.place b.chunk.bytes.now (body_of parts)
        (read_body_reads stay on enter file features a count b e (length s.params) new.ids (contents s.body.builder.builder) read refl small) in
        let sight : Sight = sight_in e b.number new.ids in
        let filed = (step_on stay on enter file features a count b bs old new w s).filed final e new.ids.locals b.number grows (env_is file final) in
        let stands : StandsAs (meaning sight) (map seq_of (seqs_of s.body.builder)) (normal same (tree_of (ops_of parts))) =
        stands_as_written sight (block_pick a) _ (tree_of (ops_of parts)) (seen e new.ids b.number _ features a filed) read.stands in
        let fine = body_fine spelled a (length s.params) _ b.chunk.bytes.now parts small rules.0 own in
        body_inexact (seqs_of s.body.builder) back a.features sight (knows b.number new.ids) (normal same (tree_of (ops_of parts))) (normal_is (IsFine a.features) (body_of parts).operators fine) stands

  pub steps_locals : (start end : ℕ) (bs : List FunctionBody) (old new : State) → ChunksFit start end (map (λ (b : FunctionBody). chunk_of b.chunk) bs) → Waits file features a count old bs → Steps file features bs old new
      → Grows new.types final → InexactLocals old.locals → InexactLocals new.locals
  steps_locals start end [] old new fit w e grows h = subst (λ (s : State). InexactLocals s.locals) (sym e) h
  steps_locals start end (b ∷ bs) old new fit w (mid, s, more) grows h =
      let on_mid = step_on stay on enter file features a count b bs old mid w s in
      steps_locals start end bs mid new fit.1 on_mid more grows (step_locals b bs old mid fit.0.0 w s (on mid.types new.types final (steps_grow on file features bs mid new more) grows) h)
