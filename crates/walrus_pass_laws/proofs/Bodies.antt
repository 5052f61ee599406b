-- The walk of a body's tree and its text name the same items.
use Rattle.std.proofs.Common.{◌≡◌, ◌∙◌, ℕ, List, [], ◌∷◌, ◌++◌, map, length, Option, Some, None, refl, sym, ap, append-nil, append_assoc}
use Rattle.std.specs.Prelude.{slice_get}
use Rattle.std.specs.List.{flat_map, AllByRecursion}
use Rattle.std.proofs.lemmas.List.Elements.{recursion_from_All}
use Rattle.wasm_references.specs.wasm_grammar.Modules.{Placed}
use Rattle.wasm_references.specs.wasm_operators.declared.block_type.BlockType.{BlockType}
use Rattle.wasm_references.specs.wasm_operators.Names.{Name, operator_names, block_names}
use Rattle.walrus_walks.specs.walrus_instr.declared.instr.Instr.{Instr}
use Rattle.walrus_walks.specs.walrus_instr.declared.seq.InstrLocId.{InstrLocId}
use Rattle.walrus_walks.specs.walrus_instr.declared.seq.InstrSeq.{InstrSeq}
use Rattle.walrus_walks.specs.Events.{EndOf, names, events_of, block_names as told_block}
use Rattle.walrus_walks.specs.Plain.{HeldAreNested, WalkIsPlain}
use Rattle.walrus_walks.specs.Tree.{children, children_in, IsNested}
use Rattle.walrus_walks.specs.Walk.{of_items, walk, body_walk}
use Rattle.walrus_tree.specs.Text.{Piece, Operator, End, after, of_parts, of_instrs, text, operators}
use Rattle.walrus_tree.specs.TextLaws.{TextIsPlain, TreesAreNested, PartsAreWhole}
use Rattle.walrus_tree.specs.Trees.{Trees, Nothing, Tree, Stand, IsTree, AreWithin}
use Rattle.walrus_meaning.specs.Bodies.{block_of, own_piece, own_seen}
use Rattle.walrus_pass_laws.specs.Plain.{PlainNameWhatIsTold}
use Rattle.walrus_pass_laws.specs.Instrs.{of_items as kept_name, unlabelled, part_types}
use Rattle.walrus_pass_laws.specs.Bodies.{parts_of, body_names, BodiesNameWhatIsTold}
use Rattle.walrus_pass_laws.proofs.Instrs.{piece_out, block_out, out, out_append, items_append, type_told, instr_told}
use Rattle.walrus_pass_laws.proofs.Sets.{Same, same_refl, same_sym, same_trans, same_eq, same_cat, same_cross, same_between, flat_append, flat_of_map, flat_of_flat, flat_both, have_same}

split_all : {A : Type 0} (P : A → Type 0) (xs ys : List A) → AllByRecursion P (xs ++ ys) → AllByRecursion P xs × AllByRecursion P ys
split_all P [] ys h = (tt, h)
split_all P (x ∷ xs) ys h = let later = split_all P xs ys h.1 in ((h.0, later.0), later.1)

module _ (plain : WalkIsPlain) (spelled : TextIsPlain) (nested : HeldAreNested) (whole : PartsAreWhole) (told : PlainNameWhatIsTold) (b : List InstrSeq) where
  -- what a text names
  abbrev named : List (Piece × InstrLocId) → List Name
  named ps = flat_map (λ (p : Piece × InstrLocId). piece_out b p.0) ps

  named_append : (ps qs : List (Piece × InstrLocId)) → named (ps ++ qs) ≡ named ps ++ named qs
  named_append ps qs = flat_append (λ (p : Piece × InstrLocId). piece_out b p.0) ps qs

  -- what the instructions of a sequence are told to name, and what they hold
  abbrev inside : Option InstrSeq → List Name
  inside (Some s) = out (of_items (walk b) s.instrs.items)
  inside None = []

  abbrev in_seq : ℕ → List Name
  in_seq k = inside (slice_get b k)

  -- the text of the sequence, inside these, names this, and what the piece behind it does
  abbrev Agrees : List ℕ → ℕ → Type 0
  Agrees around k = (p : Piece) → Same (named (text b around k p)) (in_seq k ++ piece_out b p)

  -- ---- sequences beside one another

  held_parts : (around ks : List ℕ) (ps : List Piece) → length ps ≡ length ks → AllByRecursion (Agrees around) ks
      → Same (named (of_parts (text b around) ks ps)) (flat_map in_seq ks ++ flat_map (piece_out b) ps)
  held_parts around [] [] e h = same_refl []
  held_parts around [] (p ∷ ps) e h = absurd (let z : ⊥ = cc in z)
  held_parts around (k ∷ ks) [] e h = absurd (let z : ⊥ = cc in z)
  held_parts around (k ∷ ks) (p ∷ ps) e h =
      let rest : length ps ≡ length ks = cc in
      same_trans _ _ _ (same_eq _ _ (named_append (text b around k p) (of_parts (text b around) ks ps))) (
      same_trans _ _ _ (same_cat _ _ _ _ (h.0 p) (held_parts around ks ps rest h.1)) (
      same_cross (in_seq k) (piece_out b p) (flat_map in_seq ks) (flat_map (piece_out b) ps)
      )
      )

  abbrev block_items_of : Option InstrSeq → List Name
  block_items_of o = unlabelled (block_names (block_of o))

  walk_told : (k : ℕ) (s : InstrSeq) → IsNested b k → slice_get b k ≡ Some s → Same (out (walk b k)) (block_out b k ++ in_seq k)
  walk_told k s n is =
      let items = of_items (walk b) s.instrs.items in
      same_eq _ _ (
      ap (out) (plain b k s n is)
      ∙ out_append (told_block s.ty) (items ++ EndOf s ∷ [])
      ∙ ap (λ (l : List Name). l ++ out (items ++ EndOf s ∷ [])) (ap (unlabelled) (type_told s.ty))
      ∙ ap (λ (l : List Name). block_items_of (Some s) ++ l) (out_append items (EndOf s ∷ []) ∙ append-nil (out items))
      ∙ ap (λ (o : Option InstrSeq). block_items_of o ++ inside o) (sym is)
      )

  held_walks : (ks : List ℕ) → AllByRecursion (IsNested b) ks → Same (out (events_of (walk b) ks)) (flat_map (block_out b) ks ++ flat_map in_seq ks)
  held_walks [] h = same_refl []
  held_walks (k ∷ ks) h =
      let known = h.0.is_rank k h.0.ranked in
      same_trans _ _ _ (same_eq _ _ (out_append (walk b k) (events_of (walk b) ks))) (
      same_trans _ _ _ (same_cat _ _ _ _ (walk_told k known.0 h.0 known.1) (held_walks ks h.1)) (
      same_cross (block_out b k) (in_seq k) (flat_map (block_out b) ks) (flat_map in_seq ks)
      )
      )

  -- ---- instructions

  instrs_agree : (around : List ℕ) (is : List (Instr × InstrLocId)) → AreWithin around is → AllByRecursion (Agrees around) (children_in is) → AllByRecursion (IsNested b) (children_in is)
      → Same (named (of_instrs (text b around) around is)) (out (of_items (walk b) is))
  instrs_agree around [] within h n = same_refl []
  instrs_agree around (i ∷ is) within h n =
      let agree = split_all (Agrees around) (children i.0) (children_in is) h in
      let nest = split_all (IsNested b) (children i.0) (children_in is) n in
      let parts = of_parts (text b around) (children i.0) (after i.0) in
      let rest = of_instrs (text b around) around is in
      let op = piece_out b (Operator around i.0) in
      let ins = flat_map in_seq (children i.0) in
      let pieces = flat_map (piece_out b) (after i.0) in
      let blocks = flat_map (block_out b) (children i.0) in
      let own = out (names i.0) in
      let walks = out (events_of (walk b) (children i.0)) in
      let later = out (of_items (walk b) is) in
      let first : Same (op ++ named parts) (own ++ walks) =
      same_trans _ _ _ (same_cat _ _ _ _ (same_refl op) (held_parts around (children i.0) (after i.0) (whole around i.0 within.0) agree.0)) (
      same_trans _ _ _ (same_between op pieces blocks own ins (instr_told b told around i.0 within.0)) (
      same_cat _ _ _ _ (same_refl own) (same_sym _ _ (held_walks (children i.0) nest.0))
      )
      ) in
      let left : op ++ named (parts ++ rest) ≡ (op ++ named parts) ++ named rest =
      ap (λ (l : List Name). op ++ l) (named_append parts rest) ∙ sym (append_assoc op (named parts) (named rest)) in
      let right : out (names i.0 ++ (events_of (walk b) (children i.0) ++ of_items (walk b) is)) ≡ (own ++ walks) ++ later =
      out_append (names i.0) (events_of (walk b) (children i.0) ++ of_items (walk b) is)
      ∙ ap (λ (l : List Name). own ++ l) (out_append (events_of (walk b) (children i.0)) (of_items (walk b) is))
      ∙ sym (append_assoc own walks later) in
      same_trans _ _ _ (same_eq _ _ left) (same_trans _ _ _ (same_cat _ _ _ _ first (instrs_agree around is within.1 agree.1 nest.1)) (same_eq _ _ (sym right)))

  -- ---- trees

  seq_agrees : (around : List ℕ) (k : ℕ) (s : InstrSeq) → IsNested b k → slice_get b k ≡ Some s → AreWithin (k ∷ around) s.instrs.items
      → AllByRecursion (Agrees (k ∷ around)) (children_in s.instrs.items) → AllByRecursion (IsNested b) (children_in s.instrs.items) → Agrees around k
  seq_agrees around k s n is within agree held p =
      let instrs = of_instrs (text b (k ∷ around)) (k ∷ around) s.instrs.items in
      same_trans _ _ _ (same_eq _ _ (ap named (spelled b around k p s n is) ∙ named_append instrs ((p, s.end) ∷ []) ∙ ap (λ (l : List Name). named instrs ++ l) (append-nil (piece_out b p)))) (
      same_trans _ _ _ (same_cat _ _ _ _ (instrs_agree (k ∷ around) s.instrs.items within agree held) (same_refl (piece_out b p))) (
      same_eq _ _ (ap (λ (o : Option InstrSeq). inside o ++ piece_out b p) (sym is))
      )
      )

  held_nested : (k : ℕ) (s : InstrSeq) → IsNested b k → slice_get b k ≡ Some s → AllByRecursion (IsNested b) (children_in s.instrs.items)
  held_nested k s n is = recursion_from_All (IsNested b) (children_in s.instrs.items) (nested b k s n is)

  trees_agree : (ts : Trees) (around ks : List ℕ) → Stand b ts around ks → AllByRecursion (IsNested b) ks → AllByRecursion (Agrees around) ks
  trees_agree Nothing around [] h n = tt
  trees_agree Nothing around (k ∷ ks) h n = absurd h
  trees_agree (Tree id inner beside) around [] h n = absurd h
  trees_agree (Tree id inner beside) around (k ∷ ks) h n =
      let held = held_nested k h.1 n.0 h.2 in
      (seq_agrees around k h.1 n.0 h.2 h.3 (trees_agree inner (k ∷ around) (children_in h.1.instrs.items) h.4 held) held, trees_agree beside around ks h.5 n.1)

  body_out : (s : InstrSeq) → slice_get b 0 ≡ Some s → out (body_walk b 0) ≡ out (of_items (walk b) s.instrs.items ++ EndOf s ∷ [])
  body_out s at = rw at refl

  body_agrees : TreesAreNested → IsTree b 0 → Same (named (operators b 0)) (out (body_walk b 0))
  body_agrees trees t =
      let first = t.stands.1 in
      let at = t.stands.2 in
      let items = of_items (walk b) first.instrs.items in
      let is : in_seq 0 ++ [] ≡ out (body_walk b 0) =
      append-nil (in_seq 0) ∙ ap inside at ∙ sym (append-nil (out items)) ∙ sym (out_append items (EndOf first ∷ [])) ∙ sym (body_out first at) in
      same_trans _ _ _ ((trees_agree (Tree 0 t.inside Nothing) [] (0 ∷ []) t.stands (trees b 0 t, tt)).0 End) (same_eq _ _ is)

  -- ---- as the operators and the parts of a body

  body_named : Same (unlabelled (body_names b)) (named (operators b 0))
  body_named =
      let ops = operators b 0 in
      let one = λ (n : Name). kept_name n.0 n.1 in
      let from_op = λ (p : Piece × InstrLocId). unlabelled (operator_names (own_seen b p.0)) in
      let from_parts = λ (p : Piece × InstrLocId). flat_map (λ (ty : BlockType). unlabelled (block_names ty)) (part_types b p.0) in
      let names = flat_map (λ (o : Placed). operator_names o.op) (map (own_piece b) ops) in
      let first : unlabelled names ≡ flat_map from_op ops =
      flat_of_flat one (λ (o : Placed). operator_names o.op) (map (own_piece b) ops) ∙ flat_of_map (λ (o : Placed). unlabelled (operator_names o.op)) (own_piece b) ops in
      let second : unlabelled (flat_map block_names (parts_of b)) ≡ flat_map from_parts ops =
      flat_of_flat one block_names (parts_of b) ∙ flat_of_flat (λ (ty : BlockType). unlabelled (block_names ty)) (λ (p : Piece × InstrLocId). part_types b p.0) ops in
      same_trans _ _ _ (same_eq _ _ (items_append names (flat_map block_names (parts_of b)))) (
      same_trans _ _ _ (same_cat _ _ _ _ (same_eq _ _ first) (same_eq _ _ second)) (same_sym _ _ (flat_both from_op from_parts ops))
      )

pub bodies_told : WalkIsPlain → TextIsPlain → HeldAreNested → PartsAreWhole → TreesAreNested → PlainNameWhatIsTold → BodiesNameWhatIsTold
bodies_told plain spelled nested whole trees told b t =
    have_same _ _ (same_trans _ _ _ (body_named plain spelled nested whole told b) (body_agrees plain spelled nested whole told b trees t))
