-- Lemmas: the text of sequences that lie as a tree of operators has as many operators as the tree, those that only mark where sequences end aside.
use Rattle.std.proofs.Common.{ℕ, suc, ◌+◌, ◌<◌, ◌≡◌, Bool, List, [], ◌∷◌, ◌++◌, length, map, refl, ap, subst, arith, ◌∙◌}
use Rattle.wasm_features.specs.declared.WasmFeatures.{WasmFeatures}
use Rattle.walrus_meaning.specs.walrus_local_function.walrus_body_locals.wasm_normal_form.Trees.{Tree, Close, Arm, Skip, Run, Nest}
use Rattle.walrus_meaning.specs.walrus_body_writer.walrus_body_env.walrus_instr.declared.instr.Instr.{Instr}
use Rattle.walrus_meaning.specs.walrus_body_writer.walrus_body_env.walrus_instr.declared.seq.InstrLocId.{InstrLocId}
use Rattle.walrus_meaning.specs.walrus_body_writer.walrus_body_env.walrus_instr.declared.seq.InstrSeq.{InstrSeq}
use Rattle.walrus_meaning.specs.walrus_body_writer.walrus_body_env.walrus_instr.declared.seq.InstrSeqType.{InstrSeqType}
use Rattle.walrus_meaning.specs.walrus_module.walrus_builder.Built.{Seq, seq_of}
use Rattle.walrus_meaning.specs.walrus_body_writer.walrus_tree.walrus_walks.Tree.{children, children_in, IsRank, IsNested}
use Rattle.walrus_tree.specs.Text.{End, operators}
use Rattle.walrus_tree.specs.TextLaws.{TextIsPlain}
use Rattle.walrus_meaning.specs.walrus_body_writer.walrus_body_text.Visiting.{weight, text_size}
use Rattle.walrus_pairing.specs.Laws.{OperatorComesBack}
use Rattle.walrus_meaning.specs.walrus_local_function.walrus_body_locals.walrus_body_nesting.Stands.{Turn, Otherwise, Handles, HandlesAll, Part, Finish, Ended, Delegated, with, none, lies, tree_size, StandsAs}
use Rattle.walrus_meaning.specs.walrus_local_function.walrus_body_parser.walrus_body_rules.Sights.{Sight}
use Rattle.walrus_meaning.specs.walrus_local_function.walrus_body_parser.walrus_body_steps.Meanings.{meaning}
use Rattle.walrus_body_trees.proofs.Counted.{Counts}
use Rattle.walrus_body_trees.proofs.Instrs.{seqs_in, made_children, run_stands}
use Rattle.walrus_body_trees.proofs.Standing.{seen_at, body_lies}
use Rattle.walrus_body_trees.proofs.Texts.{Line, AllRanked, ranked_split, turn_piece, first_piece, rest, first_text, none_text, held, seq_text, block_text}

size_append : (xs ys : List Line) → text_size (xs ++ ys) ≡ text_size xs + text_size ys
size_append [] ys = omega arith
size_append (x ∷ xs) ys = let later = size_append xs ys in omega (arith, later)

-- what stands behind a sequence weighs nothing
turn_weighs : (turn : Turn) → weight (turn_piece turn) ≡ 0
turn_weighs Otherwise = refl
turn_weighs (Handles tag) = refl
turn_weighs HandlesAll = refl

end_weighs : (f : Finish) → weight (first_piece [] f) ≡ 0
end_weighs Ended = refl
end_weighs (Delegated n) = refl

module _ (back : OperatorComesBack) (plain : TextIsPlain) (features : WasmFeatures) (s : Sight) (b : List InstrSeq) (rank : ℕ → ℕ) (is_rank : IsRank b rank) where
  sizes : (t : Tree) (around : List ℕ) (k : ℕ) (ty : InstrSeqType) (met : ℕ → Bool) (is : List (Instr × InstrLocId)) (e : InstrLocId) (ms : List Part) (f : Finish) (done : ℕ → Bool)
      → Counts features (suc (length around)) t → AllRanked rank (children_in is) → AllRanked rank (seqs_in ms)
      → lies (meaning s) t (map seq_of b) around k ty met is e ms f done → text_size (rest b around k is e ms f) ≡ tree_size t
  sizes (Close o p) around k ty met [] e [] f done c ri rm h = let w = end_weighs f in omega (arith, w)
  sizes (Close o p) around k ty met [] e (n ∷ ms) f done c ri rm h = absurd h
  sizes (Close o p) around k ty met (i ∷ is) e ms f done c ri rm h = absurd h
  sizes (Arm o p t) around k ty met [] e [] f done c ri rm h = absurd h
  sizes (Arm o p t) around k ty met [] e (n ∷ ms) f done c ri rm (place, fresh, x, found, turns, lie) =
      let y = seen_at b n.seq x found in
      let later = sizes t around n.seq ty (with n.seq met) y.0.instrs.items y.0.end ms f done c (held b rank is_rank n.seq y.0 rm.0 y.1) rm.1
      (subst (λ (z : Seq). lies (meaning s) t (map seq_of b) around n.seq ty (with n.seq met) z.instrs z.end ms f done) y.2 lie) in
      let w = turn_weighs n.turn in
      let all = ap text_size (seq_text plain b rank is_rank around n.seq y.0 ms f rm.0 y.1) ∙ later in
      omega (arith, w, all)
  sizes (Arm o p t) around k ty met (i ∷ is) e ms f done c ri rm h = absurd h
  sizes (Skip o p t) around k ty met [] e [] f done c ri rm h = absurd h
  sizes (Skip o p t) around k ty met [] e (n ∷ ms) f done c ri rm h = absurd h
  sizes (Skip o p t) around k ty met (i ∷ is) e ms f done c ri rm h = absurd h
  sizes (Run o p t) around k ty met [] e [] f done c ri rm h = absurd h
  sizes (Run o p t) around k ty met [] e (n ∷ ms) f done c ri rm h = absurd h
  sizes (Run o p t) around k ty met (i ∷ is) e ms f done c ri rm (runs, place, lie) =
      let alone = (run_stands back features s (k ∷ around) o i.0 runs c.0 c.1).1 in
      let later = sizes t around k ty met is e ms f done c.2 (subst (λ (ks : List ℕ). AllRanked rank (ks ++ children_in is)) alone ri) rm lie in
      let all = ap text_size (first_text b around k i is e ms f [] (none_text b (k ∷ around) i.0 alone)) in
      omega (arith, all, later)
  sizes (Nest o p u t) around k ty met [] e [] f done c ri rm h = absurd h
  sizes (Nest o p u t) around k ty met [] e (n ∷ ms) f done c ri rm h = absurd h
  sizes (Nest o p u t) around k ty met (i ∷ is) e ms f done c ri rm (q, (g, makes, opener), place, fresh, x, found, opens, half, inside, lie) =
      let y = seen_at b q.first x found in
      let split = ranked_split rank (children i.0) (children_in is) ri in
      let ranks = subst (AllRanked rank) (made_children g i.0 q makes) split.0 in
      let block = rest b (k ∷ around) q.first y.0.instrs.items y.0.end q.more q.finish in
      let inner = sizes u (k ∷ around) q.first x.ty (with q.first met) y.0.instrs.items y.0.end q.more q.finish half c.0 (held b rank is_rank q.first y.0 ranks.0 y.1) ranks.1
      (subst (λ (z : Seq). lies (meaning s) u (map seq_of b) (k ∷ around) q.first x.ty (with q.first met) z.instrs z.end q.more q.finish half) y.2 inside) in
      let later = sizes t around k ty half is e ms f done c.1 split.1 rm lie in
      let all = ap text_size (first_text b around k i is e ms f block (block_text plain b rank is_rank (k ∷ around) g i.0 q y.0 makes ranks.0 y.1)) in
      let both = size_append block (rest b around k is e ms f) in
      omega (arith, all, both, inner, later)

  pub body_size : (t : Tree) → Counts features 1 t → StandsAs (meaning s) (map seq_of b) t → 0 < rank 0 → text_size (operators b 0) ≡ tree_size t
  body_size t c h ranked =
      let y = body_lies s b t h in
      let nested : IsNested b 0 = record { rank = rank; is_rank = is_rank; ranked = ranked } in
      ap text_size (plain b [] 0 End y.0 nested y.1) ∙ sizes t [] 0 h.ty (with 0 none) y.0.instrs.items y.0.end [] Ended h.done c (held b rank is_rank 0 y.0 ranked y.1) tt y.2
