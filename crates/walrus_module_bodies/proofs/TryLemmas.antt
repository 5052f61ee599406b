-- Lemmas: a body in which no operator opened a legacy `try` has none.
use Rattle.std.proofs.Common.{ℕ, ◌≡◌, false, List, [], ◌∷◌, length, map, Option, None, refl, sym, ap, ◌∙◌, inl, inr}
use Rattle.std.specs.Prelude.{◌-◌}
use Rattle.wasm_reader.specs.Cursor.{Cursor, end_of, rest}
use Rattle.walrus_index_maps.specs.Maps.{Ids}
use Rattle.walrus_module_env.specs.walrus_body_parser.wasm_operators.declared.op_code.OpCode.{OpCode}
use Rattle.walrus_module_env.specs.walrus_body_parser.wasm_operators.Operators.{Seen}
use Rattle.walrus_module_env.specs.walrus_body_parser.wasm_operators.Items.{Labels, Item, Names, Byte, Heap, ManyLabels}
use Rattle.walrus_module_env.specs.walrus_body_parser.wasm_operators.declared.block_type.BlockType.{BlockType}
use Rattle.walrus_module_env.specs.walrus_body_parser.Points.{op_told, ops_from, place_at}
use Rattle.walrus_module_env.specs.walrus_body_parser.Trees.{parser_of}
use Rattle.walrus_module_env.specs.walrus_body_parser.walrus_body_locals.Told.{Pass}
use Rattle.walrus_module_env.specs.walrus_body_parser.walrus_body_rules.wasm_body_grammar.Bodies.{next_point, opened}
use Rattle.walrus_module_env.specs.walrus_body_parser.walrus_body_rules.wasm_body_grammar.wasm_formats.Stops.{Parsing}
use Rattle.walrus_module_env.specs.walrus_body_parser.walrus_body_rules.Sights.{Sight, look}
use Rattle.walrus_module_env.specs.walrus_body_parser.walrus_body_rules.walrus_pairing.Read.{at}
use Rattle.walrus_module_env.specs.walrus_body_parser.walrus_body_stack.walrus_body_env.declared.error.BodyError.{BodyError}
use Rattle.walrus_module_env.specs.walrus_body_parser.walrus_body_stack.walrus_body_nesting.declared.frames.Opener.{Opener}
use Rattle.walrus_module_env.specs.walrus_body_parser.walrus_body_stack.walrus_body_nesting.declared.frames.Opener.TheVariants as openers
use Rattle.walrus_module_env.specs.walrus_body_parser.walrus_body_stack.walrus_body_nesting.Opens.{Makes, same}
use Rattle.walrus_module_env.specs.walrus_body_parser.walrus_body_stack.walrus_body_nesting.Stands.{Block, StandsAs}
use Rattle.walrus_module_env.specs.walrus_body_parser.walrus_body_stack.walrus_builder.Built.{seq_of}
use Rattle.walrus_module_env.specs.walrus_body_parser.walrus_body_stack.walrus_instr.declared.instr.Instr.{Instr}
use Rattle.walrus_module_env.specs.walrus_body_parser.walrus_body_stack.walrus_instr.declared.instr.Instr.TheVariants as instrs
use Rattle.walrus_module_env.specs.walrus_body_parser.walrus_body_stack.walrus_instr.declared.seq.InstrSeq.{InstrSeq}
use Rattle.walrus_module_env.specs.walrus_body_parser.walrus_body_stack.walrus_instr.declared.seq.InstrSeqType.{InstrSeqType}
use Rattle.walrus_module_env.specs.walrus_body_parser.walrus_body_stack.walrus_instr.walrus_types.walrus_items.declared.local.Local.{Local}
use Rattle.walrus_module_env.specs.walrus_body_parser.walrus_body_stack.wasm_normal_form.Normal.{normal}
use Rattle.walrus_module_env.specs.walrus_body_parser.walrus_body_stack.wasm_normal_form.Trees.{tree_of}
use Rattle.walrus_module_env.specs.walrus_body_parser.walrus_body_steps.Meanings.{IsOpener, NestsAs, RunsAs, meaning}
use Rattle.walrus_module_env.specs.walrus_collections.walrus_local_function.walrus_function_parser.Parsed.{Parses, seen_by, telling}
use Rattle.walrus_module_env.specs.walrus_handler_types.walrus_handlers.Gathering.{have_try, is_try}
use Rattle.walrus_module_bodies.specs.contracts.tries.TriesValidator.TheImpl.{ghosts}
use Rattle.walrus_module_bodies.specs.declared.tries.Tries.{Tries}
use Rattle.walrus_module_bodies.specs.TryCodes.{opens_try}
use Rattle.walrus_module_bodies.proofs.TryReads.{bytes_none, gives_try, neither, objects_none, read_none}
use Rattle.walrus_module_bodies.proofs.TryTrees.{OpenNone, body_shut, none_opens, stands_quiet}

-- ---- what instructions stand for

module _ (s : Sight) (around : List ℕ) where
  runs_none : (code : OpCode) (items : List Item) (i : Instr) → RunsAs s around code items i → is_try i ≡ false
  runs_none code (Names Labels n ∷ []) i (inl h) = ap is_try h.1
  runs_none code (Names Labels n ∷ []) i (inr (k, there, is)) =
      sym (ap gives_try is) ∙ bytes_none code (at 0x0c (instrs.Br k) ∷ at 0x0d (instrs.BrIf k) ∷ at 0xd5 (instrs.BrOnNull k) ∷ at 0xd6 (instrs.BrOnNonNull k) ∷ []) refl
  runs_none code (ManyLabels ns ∷ Names Labels n ∷ []) i (ks, k, are, there, is) = ap is_try is
  runs_none code (Byte b ∷ Names Labels n ∷ Heap x ∷ Heap y ∷ []) i (k, from, to, there, f, t, is) =
      sym (ap gives_try is) ∙ objects_none code [] (at 24 (instrs.BrOnCast k _ _) ∷ at 25 (instrs.BrOnCastFail k _ _) ∷ []) refl refl
  runs_none code items i h = read_none (look s) (record { code = code; items = items }) i h

  nests_none : (op : Seen) (i : Instr) (q : Block) → opens_try op.code ≡ false → NestsAs s around op i q → is_try i ≡ false
  nests_none op i q shut (g, makes, opener) = go g makes opener
    where
      go : (g : Opener) → Makes g i q → IsOpener s around op g → is_try i ≡ false
      go openers.Block h is = ap is_try h.0
      go openers.Loop h is = ap is_try h.0
      go openers.If h is = ap is_try h.1
      go openers.Try h is = absurd (none_opens op.code shut is)
      go (openers.TryTable cs) h is = ap is_try h.0

body_quiet : (s : Sight) (b : List InstrSeq) (pick : BlockType → BlockType) (place : ℕ) (ops : List (ℕ × Seen)) → OpenNone ops → StandsAs (meaning s) (map seq_of b) (normal pick (tree_of (ops_from place ops))) → have_try b ≡ false
body_quiet s b pick place ops none stands =
    stands_quiet (meaning s) (λ around op i h. runs_none s around op.code op.items i h) (λ around op i q shut h. nests_none s around op i q shut h) b (normal pick (tree_of (ops_from place ops))) (body_shut pick place ops none) stands

-- ---- what the validator was told

met : (v w : Tries) (op : Seen) (offset : ℕ) → ghosts.op_step v offset op ≡ (None, w) → w.any ≡ false → (v.any ≡ false) × (opens_try op.code ≡ false)
met v w op offset told none = neither v.any (opens_try op.code) (ap (λ (p : Option BodyError × Tries). p.1.any) told ∙ none)

module _ {S : Type 0} (next : S → ℕ × Seen → S) (parse : S → List ℕ → Parsing (ℕ × Seen)) (end : ℕ) where
  passed_none : (ops : List (ℕ × Seen)) (s : S) (v w : Tries) (bytes later : List ℕ) → Pass next parse (op_told ghosts.op_step) end s v bytes ops later w → w.any ≡ false → (v.any ≡ false) × OpenNone ops
  passed_none [] s v w bytes later h none = (ap (λ (t : Tries). t.any) (sym h.1) ∙ none, tt)
  passed_none (x ∷ xs) s v w bytes later h none =
      let more = passed_none xs (next s x) h.1 w h.0 later h.4 none in
      let one = met v h.1 x.1 (end - length bytes) h.3 more.0 in
      (one.0, (one.1, more.1))

pub parsed_quiet : (s : Sight) (params code : ℕ) (old : Cursor) (entry : InstrSeqType) (ls ms : List Local) (j : Ids) (v w : Tries) (b : List InstrSeq)
    → Parses s (telling ghosts.locals_step ghosts.op_step ghosts.finish_step) params code old entry ls ms j v w (map seq_of b) → w.any ≡ false → have_try b ≡ false
parsed_quiet s params code old entry ls ms j v w b p none =
    let left : p.ended.left.any ≡ false = ap (λ (q : Option BodyError × Tries). q.1.any) p.ended.finished ∙ none in
    let ops = passed_none next_point (parser_of old.window.features (seen_by s j)) (end_of old) p.ops (opened (place_at code p.mid)) p.left p.ended.left (rest p.mid) [] p.ended.passed left in
    body_quiet (seen_by s j) b same (place_at code p.mid) p.ops ops.1 (p.stands same (λ ty. refl))
