-- Lemmas: what the body of a function that was read names, by ids and by places.
use Rattle.std.specs.Prelude.{ℕ, ◌≡◌, List, [], ◌∷◌, ◌++◌, map, Option, refl}
use Rattle.std.specs.List.{flat_map}
use Rattle.std.proofs.Common.{ap, sym, ◌∙◌, subst, inl, inr}
use Rattle.walrus_arena.specs.Arena.{Arena}
use Rattle.walrus_forms.specs.declared.value.ValType.{ValType}
use Rattle.walrus_types.specs.Table.{Table as TypeTable}
use Rattle.wasm_features.specs.declared.WasmFeatures.{WasmFeatures}
use Rattle.wasm_operators.specs.declared.block_type.BlockType.{BlockType}
use Rattle.wasm_operators.specs.declared.block_type.BlockType.TheVariants as blocks
use Rattle.wasm_operators.specs.Items.{Locals, Labels, Item as Immediate, Names, Byte, Heap, ManyLabels}
use Rattle.wasm_operators.specs.NameLaws.{NamesAreRenamed, same}
use Rattle.wasm_operators.specs.Names.{Renaming, operator_names, renamed_operator}
use Rattle.wasm_operators.specs.Operators.{Seen}
use Rattle.wasm_operators.specs.Ranges.{OperatorFits}
use Rattle.wasm_grammar.specs.Modules as grammar
use Rattle.wasm_body_grammar.specs.Rules.{Around}
use Rattle.wasm_references.specs.References.{body_items, names_items}
use Rattle.wasm_normal_form.specs.Laws.{NormalNests}
use Rattle.wasm_normal_form.specs.Normal.{normal}
use Rattle.wasm_normal_form.specs.Roles.{Placed}
use Rattle.wasm_normal_form.specs.Trees.{IsShaped, Tree, flat, tree_of}
use Rattle.wasm_run_laws.proofs.Nested.{tree_shaped}
use Rattle.wasm_ruled_renamed.specs.Bodies.{with_numbers}
use Rattle.wasm_ruled_renamed.specs.Renamed.{renamed_placed}
use Rattle.wasm_part.specs.Seen.{parts_in}
use Rattle.walrus_instr.specs.declared.instr.Instr.{Instr}
use Rattle.walrus_instr.specs.declared.instr.Instr.TheVariants as instrs
use Rattle.walrus_instr.specs.declared.seq.InstrSeq.{InstrSeq}
use Rattle.walrus_builder.specs.Built.{Seq, seq_of}
use Rattle.walrus_builder.specs.Functions.{seqs_of}
use Rattle.walrus_walks.specs.Tree.{children}
use Rattle.walrus_tree.specs.Text.{End, operators}
use Rattle.walrus_tree.specs.TextLaws.{TextIsPlain, TreesAreNested}
use Rattle.walrus_tree.specs.Trees.{IsTree}
use Rattle.walrus_pairing.specs.Laws.{OperatorComesBack}
use Rattle.walrus_pairing.specs.Read.{at, instr_at}
use Rattle.walrus_body_rules.specs.Sights.{Sight, look}
use Rattle.walrus_body_steps.specs.Meanings.{RunsAs, meaning}
use Rattle.walrus_body_nesting.specs.Stands.{Ended, Part, StandsAs, lies, none, with}
use Rattle.walrus_body_trees.proofs.Instrs.{bytes_have, objects_have, read_stands}
use Rattle.walrus_body_laws.proofs.Fitting.{RunsFit}
use Rattle.walrus_local_function.specs.declared.local_function.LocalFunction.{LocalFunction}
use Rattle.walrus_module_items.specs.declared.tag.Tag.{Tag}
use Rattle.walrus_meaning.specs.Bodies.{own_operators, own_piece, own_seen}
use Rattle.walrus_meaning.specs.Words.{own_block}
use Rattle.walrus_pass_laws.specs.Bodies.{parts_of}
use Rattle.walrus_pass_laws.proofs.Sets.{In, in_cases, in_left}
use Rattle.walrus_kept_laws.specs.Alike.{StandsFor}
use Rattle.walrus_kept_laws.proofs.Functions.{ListsAlike, body_alike, ops_same}
use Rattle.walrus_kept_laws.proofs.Handled.{BlocksAlike}
use Rattle.walrus_kept_laws.proofs.Parts.{Back, Both, Forth, is_opened, its_own, line_ops, line_parts, stands_for, walked}
use Rattle.walrus_kept_laws.proofs.Text.{Line, held, rest, seen_at}
use Rattle.walrus_kept_laws.proofs.Turns.{SeesAlike, Typed, opens_typed, turns_typed}
use Rattle.walrus_kept_laws.proofs.Walk.{body_parts, sent}

-- ---- what stands in a sequence holds none

abbrev HoldsNone : Instr → Type 0
HoldsNone i = children i ≡ []

module _ (back : OperatorComesBack) (features : WasmFeatures) (s : Sight) (around : List ℕ) where
  run_none : (op : Seen) (i : Instr) → RunsAs s around op.code op.items i → OperatorFits features op → children i ≡ []
  run_none op i h fits = go op.items refl h
    where
      go : (items : List Immediate) → op.items ≡ items → RunsAs s around op.code items i → children i ≡ []
      go (Names Labels n ∷ []) e (inl h) = ap children h.1
      go (Names Labels n ∷ []) e (inr (k, there, is)) =
          bytes_have HoldsNone (at 0x0c (instrs.Br k) ∷ at 0x0d (instrs.BrIf k) ∷ at 0xd5 (instrs.BrOnNull k) ∷ at 0xd6 (instrs.BrOnNonNull k) ∷ []) op.code i
          ((refl, tt), ((refl, tt), ((refl, tt), ((refl, tt), tt)))) is
      go (ManyLabels ns ∷ Names Labels n ∷ []) e (ks, k, are, there, is) = ap children is
      go (Byte b ∷ Names Labels n ∷ Heap x ∷ Heap y ∷ []) e (k, from, to, there, f, t, is) =
          objects_have HoldsNone [] (at 24 (instrs.BrOnCast k _ _) ∷ at 25 (instrs.BrOnCastFail k _ _) ∷ []) op.code i tt ((refl, tt), ((refl, tt), tt)) is
      go _ e h = (read_stands back features s around op i fits (ap (λ items. instr_at (look s) (record { code = op.code; items = items })) e ∙ h)).1

-- ---- lists

ops_of_lines : (b : List InstrSeq) (lines : List Line) → map (λ (o : grammar.Placed). o.op) (map (own_piece b) lines) ≡ line_ops b lines
ops_of_lines b [] = refl
ops_of_lines b (l ∷ lines) = ap (λ (ops : List Seen). own_seen b l.0 ∷ ops) (ops_of_lines b lines)

ops_sent : (to : Seen → Seen) (place : Option ℕ → ℕ) (a : Around) (codes : (o : Seen) → (to o).code ≡ o.code) (xs : List Placed) → map (λ (o : grammar.Placed). o.op) (map (sent a to codes place) xs) ≡ map (λ (o : Placed). to o.op) xs
ops_sent to place a codes [] = refl
ops_sent to place a codes (x ∷ xs) = ap (λ (ops : List Seen). to x.op ∷ ops) (ops_sent to place a codes xs)

module _ (named : NamesAreRenamed) (plain : TextIsPlain) (nest : TreesAreNested) (back : OperatorComesBack) (nests : NormalNests) (k own_types : ℕ) (ids : List ℕ) (t : TypeTable) (tags : Arena Tag) (a : Around) (s : Sight) (r : Renaming)
    (h : SeesAlike k own_types ids t tags a s r) (features : WasmFeatures) (pick : BlockType → BlockType) (text : List Placed) (fits : RunsFit features (normal pick (tree_of text))) (local : LocalFunction)
    (tree : IsTree (seqs_of local.builder) 0) (stands : StandsAs (meaning s) (map seq_of (seqs_of local.builder)) (normal pick (tree_of text))) (place : Option ℕ → ℕ) (number : ℕ → ℕ) (vl wl : ℕ → Option ValType) where
  abbrev to : Seen → Seen
  to o = renamed_operator r o

  pub codes : (o : Seen) → (to o).code ≡ o.code
  codes o = refl

  abbrev b : List InstrSeq
  b = seqs_of local.builder

  abbrev w : Tree
  w = normal pick (tree_of text)

  abbrev here : List grammar.Placed
  here = own_operators local

  abbrev there : List grammar.Placed
  there = map (renamed_placed (with_numbers number same)) here

  abbrev no_parts : List Part
  no_parts = []

  abbrev Own : BlockType → Type 0
  Own v = (v ≡ own_block stands.ty) × (no_parts ≡ [] → ⊥)

  shaped : IsShaped w
  shaped = (nests pick (flat (tree_of text)) (tree_of text) (record { shaped = tree_shaped text; flat_is = refl })).shaped

  pub lists_alike : there ≡ map (sent a to codes place) (flat w) → ((id : ℕ) → In (flat_map (λ (o : grammar.Placed). operator_names o.op) here) (Locals, id) → wl (number id) ≡ vl id)
      → ((z : grammar.Item) → In (flat_map (λ (o : grammar.Placed). names_items vl (operator_names o.op)) here) z → StandsFor ids z z)
      → ListsAlike ids (body_items vl here (parts_of b)) (body_items wl there (parts_in a [] there))
  lists_alike is locals fixed =
      let n = nest b 0 tree in
      let y = seen_at b 0 stands.enters.seq stands.enters.found in
      let lie = subst (λ (z : Seq). lies (meaning s) w (map seq_of b) [] 0 stands.ty (with 0 none) z.instrs z.end [] Ended stands.done) y.2 stands.enters.lie in
      let lines = rest b [] 0 y.0.instrs.items y.0.end [] Ended in
      let both : Both (BlocksAlike ids) (Typed k own_types ids t tags a s r h) plain features s b n.rank n.is_rank (λ around op i. run_none back features s around op i) a to codes place (opens_typed k own_types ids t tags a s r h) (turns_typed k own_types ids t tags a s r h)
      stands.ty blocks.Empty lines [] w =
      walked (BlocksAlike ids) (Typed k own_types ids t tags a s r h) plain features s b n.rank n.is_rank (λ around op i. run_none back features s around op i) a to codes place (opens_typed k own_types ids t tags a s r h) (turns_typed k own_types ids t tags a s r h)
      w [] 0 stands.ty blocks.Empty (with 0 none) y.0.instrs.items y.0.end [] Ended stands.done fits (λ (some : no_parts ≡ [] → ⊥). absurd (some refl)) (held b n.rank n.is_rank 0 y.0 n.ranked y.1) tt lie in
      let whole : operators b 0 ≡ lines = plain b [] 0 End y.0 n y.1 in
      let parts_here : parts_of b ≡ line_parts b lines = ap (line_parts b) whole in
      let ops_here : line_ops b lines ≡ map (λ (o : grammar.Placed). o.op) here = ap (line_ops b) (sym whole) ∙ sym (ops_of_lines b (operators b 0)) in
      let parts_w = ap (parts_in a []) is ∙ body_parts a to codes place w shaped in
      let ops_w : map (λ (o : Placed). to o.op) (flat w) ≡ map (λ (o : grammar.Placed). o.op) there = sym (ops_sent to place a codes (flat w)) ∙ ap (map (λ (o : grammar.Placed). o.op)) (sym is) in
      body_alike ids vl wl here there (parts_of b) (parts_in a [] there) (ops_same named vl wl number here locals) fixed
      (λ v i. ahead v (subst (λ (l : List Seen). Forth (BlocksAlike ids) (Own v) l (parts_in a [] there) v) ops_here
      (subst (λ (l : List BlockType). Forth (BlocksAlike ids) (Own v) (line_ops b lines) l v) (sym parts_w)
      (both.forth v (in_left (line_parts b lines) [] v (subst (λ (l : List BlockType). In l v) parts_here i))))))
      (λ u i. behind lines u (subst (λ (l : List Seen). Back (BlocksAlike ids) (u ≡ blocks.Empty) l (line_parts b lines ++ []) u) ops_w (both.back u (subst (λ (l : List BlockType). In l u) parts_w i))) (sym parts_here))
    where
      ahead : (v : BlockType) → Forth (BlocksAlike ids) (Own v) (map (λ (o : grammar.Placed). o.op) here) (parts_in a [] there) v
          → Forth (BlocksAlike ids) ⊥ (map (λ (o : grammar.Placed). o.op) here) (parts_in a [] there) v
      ahead v (its_own p) = absurd (p.1 refl)
      ahead v (is_opened o) = is_opened o
      ahead v (stands_for x j l) = stands_for x j l

      behind : (lines : List Line) (u : BlockType) → Back (BlocksAlike ids) (u ≡ blocks.Empty) (map (λ (o : grammar.Placed). o.op) there) (line_parts b lines ++ []) u → line_parts b lines ≡ parts_of b
          → Back (BlocksAlike ids) (u ≡ blocks.Empty) (map (λ (o : grammar.Placed). o.op) there) (parts_of b) u
      behind lines u (its_own p) e = its_own p
      behind lines u (is_opened o) e = is_opened o
      behind lines u (stands_for v j l) e = stands_for v (subst (λ (m : List BlockType). In m v) e (only (line_parts b lines) v j)) l
        where
          only : (xs : List BlockType) (v : BlockType) → In (xs ++ []) v → In xs v
          only xs v j = elim (in_cases xs [] v j) as (λ _. In xs v) [ inl i ↦ i | inr i ↦ absurd i ]
