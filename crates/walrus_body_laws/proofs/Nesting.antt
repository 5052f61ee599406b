-- Lemmas: what is written for a tree nests.
use Rattle.std.proofs.Common.{ℕ, zero, suc, ◌<◌, ◌≤◌, ◌≡◌, List, [], ◌∷◌, ◌++◌, length, Option, Some, None, Ok, Err, refl, sym, ap, subst, arith, ◌∙◌, append-nil}
use Rattle.std.proofs.lemmas.List.{append_assoc}
use Rattle.walrus_instr.specs.declared.instr.Instr.{Instr}
use Rattle.walrus_instr.specs.declared.instr.Instr.TheVariants as instrs
use Rattle.walrus_instr.specs.declared.instr.LegacyCatch.{LegacyCatch}
use Rattle.walrus_instr.specs.declared.instr.LegacyCatch.TheVariants as Legacy
use Rattle.walrus_instr.specs.declared.seq.InstrLocId.{InstrLocId}
use Rattle.walrus_instr.specs.declared.seq.InstrSeq.{InstrSeq}
use Rattle.walrus_walks.specs.Tree.{children, children_in, handlers, Falls, IsRank}
use Rattle.walrus_tree.specs.Trees.{Counts, Delegates}
use Rattle.walrus_tree.specs.Text.{Piece, Operator, End, after_parts, after, of_parts, of_instrs, text, operators}
use Rattle.walrus_tree.specs.TextLaws.{TreesAreNested, TextIsPlain, AreSound, TreesAreSound}
use Rattle.wasm_operators.specs.Operators.{Seen}
use Rattle.wasm_normal_form.specs.Roles.{Placed, placed, Runs, Opens, Turns, Ends, role}
use Rattle.wasm_normal_form.specs.Trees.{Tree, Close, Arm, Run, Nest, flat, IsShaped}
use Rattle.walrus_pairing.specs.Looks.{Look, Or}
use Rattle.walrus_body_names.specs.walrus_body_writer.Spelled.{Text, written, IsWritten, AreWritten}
use Rattle.walrus_body_laws.specs.WritingLaws.{place_in, placed_of, text_ops}
use Rattle.walrus_body_laws.specs.Naming.{instr_role}
use Rattle.walrus_body_laws.specs.Nesting.{TreesNest}
use Rattle.walrus_body_laws.proofs.Agreeing.{ToldPiece, piece_role, piece_told}

-- ---- texts, part by part

module _ (look : Look) (b : List InstrSeq) where
  ops_append : (xs ys : Text) → text_ops look b (xs ++ ys) ≡ text_ops look b xs ++ text_ops look b ys
  ops_append [] ys = refl
  ops_append (x ∷ xs) ys =
      ap (λ (z : List Placed). placed_of (written look b x.0) x.1 ++ z) (ops_append xs ys)
      ∙ sym (append_assoc (placed_of (written look b x.0) x.1) (text_ops look b xs) (text_ops look b ys))

  written_front : (xs ys : Text) → AreWritten look b (xs ++ ys) → AreWritten look b xs
  written_front [] ys h = tt
  written_front (x ∷ xs) ys h = (h.0, written_front xs ys h.1)

  written_back : (xs ys : Text) → AreWritten look b (xs ++ ys) → AreWritten look b ys
  written_back [] ys h = h
  written_back (x ∷ xs) ys h = written_back xs ys h.1

sound_front : (xs ys : Text) → AreSound (xs ++ ys) → AreSound xs
sound_front [] ys h = tt
sound_front (x ∷ xs) ys h = (h.0, sound_front xs ys h.1)

sound_back : (xs ys : Text) → AreSound (xs ++ ys) → AreSound ys
sound_back [] ys h = h
sound_back (x ∷ xs) ys h = sound_back xs ys h.1

-- ---- what is written for a piece

record OneOp (look : Look) (b : List InstrSeq) (p : Piece × InstrLocId) : Type 0 where
  pub op : Seen
  pub stands : role op ≡ piece_role p.0
  pub is : placed_of (written look b p.0) p.1 ≡ placed op (place_in p.1) ∷ []

one_op : (look : Look) (b : List InstrSeq) (p : Piece × InstrLocId) → IsWritten (written look b p.0) → OneOp look b p
one_op look b p w = at (written look b p.0) refl w (piece_told look b p.0)
  where
    at : (a : Or (Option Seen)) → written look b p.0 ≡ a → IsWritten a → ToldPiece look p.0 a → OneOp look b p
    at (Ok (Some s)) e w h = record { op = s; stands = h.0; is = ap (λ (z : Or (Option Seen)). placed_of z p.1) e }
    at (Ok None) e w h = absurd h
    at (Err x) e w h = absurd w

-- ---- trees

-- these operators, and then more, are those of a tree
record Grows (ops more : List Placed) : Type 0 where
  pub tree : Tree
  pub shaped : IsShaped tree
  pub flat_is : flat tree ≡ ops ++ more

-- what stands behind the sequences of one block: pieces that turn, and one that ends
abbrev pub Closing : List ℕ → List Piece → Type 0
Closing [] ps = ⊥
Closing (k ∷ ks) [] = ⊥
Closing (k ∷ []) (p ∷ []) = piece_role p ≡ Ends
Closing (k ∷ []) (p ∷ (q ∷ ps)) = ⊥
Closing (k ∷ (j ∷ ks)) (p ∷ ps) = (piece_role p ≡ Turns) × Closing (j ∷ ks) ps

closing_parts : (n : ℕ) (parts : List LegacyCatch) (k : ℕ) → Delegates n parts → Closing (k ∷ handlers parts) (after_parts parts)
closing_parts n [] k h = refl
closing_parts n (Legacy.Catch tag j ∷ parts) k h = (refl, closing_parts n parts j h)
closing_parts n (Legacy.CatchAll j ∷ parts) k h = (refl, closing_parts n parts j h)
closing_parts n (Legacy.Delegate depth ∷ []) k h = refl
closing_parts n (Legacy.Delegate depth ∷ (p ∷ parts)) k h = absurd (filled p parts h.1)
  where
    filled : (p : LegacyCatch) (parts : List LegacyCatch) → p ∷ parts ≡ [] → ⊥
    filled p parts e = cc

-- an instruction opens a block, whose sequences are closed, or it holds nothing
data Holds (i : Instr) : Type 0 where
  Some_held : (opens : instr_role i ≡ Opens) (closing : Closing (children i) (after i)) → Holds i
  None_held : (runs : instr_role i ≡ Runs) (none : (t : ℕ → Piece → Text) → of_parts t (children i) (after i) ≡ []) → Holds i

holds : (n : ℕ) (i : Instr) → Counts n i → Holds i
holds n (instrs.Block k) h = Some_held refl refl
holds n (instrs.Loop k) h = Some_held refl refl
holds n (instrs.IfElse k j) h = Some_held refl (refl, refl)
holds n (instrs.Try k catches) h = Some_held refl (closing_parts n catches.items k h)
holds n (instrs.TryTable k catches) h = Some_held refl refl
holds n _ h = None_held refl (λ t. refl)

falls_split : (rank : ℕ → ℕ) (m : ℕ) (xs ys : List ℕ) → Falls rank m (xs ++ ys) → Falls rank m xs × Falls rank m ys
falls_split rank m [] ys h = (tt, h)
falls_split rank m (x ∷ xs) ys h = let r = falls_split rank m xs ys h.2 in ((h.0, h.1, r.0), r.1)

module _ (look : Look) (b : List InstrSeq) (plain : TextIsPlain) (rank : ℕ → ℕ) (is_rank : IsRank b rank) where
  abbrev SeqGrows : ℕ → Type 0
  SeqGrows n = (around : List ℕ) (k : ℕ) (p : Piece) → 0 < rank k → rank k < n → AreWritten look b (text b around k p) → AreSound (text b around k p)
      → (more : List Placed) → ((place : InstrLocId) → IsWritten (written look b p) → Grows (text_ops look b ((p, place) ∷ [])) more) → Grows (text_ops look b (text b around k p)) more

  ends : (p : Piece) (place : InstrLocId) → piece_role p ≡ Ends → IsWritten (written look b p) → Grows (text_ops look b ((p, place) ∷ [])) []
  ends p place e w =
      let o = one_op look b (p, place) w in
      record { tree = Close o.op (place_in place); shaped = o.stands ∙ e; flat_is = sym (append-nil (text_ops look b ((p, place) ∷ [])) ∙ append-nil (placed_of (written look b p) place) ∙ o.is) }

  turns : (p : Piece) (place : InstrLocId) (next : Tree) → IsShaped next → piece_role p ≡ Turns → IsWritten (written look b p) → Grows (text_ops look b ((p, place) ∷ [])) (flat next)
  turns p place next shaped e w =
      let o = one_op look b (p, place) w in
      record {
        tree = Arm o.op (place_in place) next;
        shaped = (o.stands ∙ e, shaped);
        flat_is = ap (λ (z : List Placed). z ++ flat next) (sym (append-nil (placed_of (written look b p) place) ∙ o.is));
      }

  module _ (n : ℕ) (seq : SeqGrows n) (around : List ℕ) where
    parts : (ks : List ℕ) (ps : List Piece) (m : ℕ) → m ≤ n → Closing ks ps → Falls rank m ks → AreWritten look b (of_parts (text b around) ks ps) → AreSound (of_parts (text b around) ks ps)
        → Grows (text_ops look b (of_parts (text b around) ks ps)) []
    parts [] ps m l c f w s = absurd c
    parts (k ∷ ks) [] m l c f w s = absurd (none ks c)
      where
        none : (ks : List ℕ) → Closing (k ∷ ks) [] → ⊥
        none [] h = h
        none (j ∷ js) h = h
    parts (k ∷ []) (p ∷ []) m l c f w s =
        let t = text b around k p in
        let below = f.1 in
        let grown = seq around k p f.0 (omega (arith, below, l)) (written_front look b t [] w) (sound_front t [] s) [] (λ place v. ends p place c v) in
        record { tree = grown.tree; shaped = grown.shaped; flat_is = grown.flat_is ∙ ap (λ (z : Text). text_ops look b z ++ []) (sym (append-nil t)) }
    parts (k ∷ []) (p ∷ (q ∷ ps)) m l c f w s = absurd c
    parts (k ∷ (j ∷ ks)) (p ∷ ps) m l c f w s =
        let t = text b around k p in
        let rest = of_parts (text b around) (j ∷ ks) ps in
        let below = f.1 in
        let later = parts (j ∷ ks) ps m l c.1 f.2 (written_back look b t rest w) (sound_back t rest s) in
        let grown = seq around k p f.0 (omega (arith, below, l)) (written_front look b t rest w) (sound_front t rest s) (flat later.tree) (λ place v. turns p place later.tree later.shaped c.0 v) in
        record {
          tree = grown.tree;
          shaped = grown.shaped;
          flat_is =
              grown.flat_is ∙ ap (λ (z : List Placed). text_ops look b t ++ z) later.flat_is ∙ sym (append_assoc (text_ops look b t) (text_ops look b rest) [])
              ∙ ap (λ (z : List Placed). z ++ []) (sym (ops_append look b t rest));
        }

    one : (i : Instr × InstrLocId) (rest : Text) (tail : List Placed) (m : ℕ) → m ≤ n → Falls rank m (children i.0) → Holds i.0 → IsWritten (written look b (Operator around i.0))
        → AreWritten look b (of_parts (text b around) (children i.0) (after i.0)) → AreSound (of_parts (text b around) (children i.0) (after i.0))
        → Grows (text_ops look b rest) tail → Grows (text_ops look b ((Operator around i.0, i.1) ∷ (of_parts (text b around) (children i.0) (after i.0) ++ rest))) tail
    one i rest tail m l f (Some_held opens closing) w ws ss later =
        let o = one_op look b (Operator around i.0, i.1) w in
        let held = of_parts (text b around) (children i.0) (after i.0) in
        let body = parts (children i.0) (after i.0) m l closing f ws ss in
        let place = place_in i.1 in
        record {
          tree = Nest o.op place body.tree later.tree;
          shaped = (o.stands ∙ opens, body.shaped, later.shaped);
          flat_is =
              ap (λ (z : List Placed). placed o.op place ∷ (z ++ flat later.tree)) (body.flat_is ∙ append-nil (text_ops look b held))
              ∙ ap (λ (z : List Placed). placed o.op place ∷ (text_ops look b held ++ z)) later.flat_is
              ∙ ap (λ (z : List Placed). placed o.op place ∷ z) (sym (append_assoc (text_ops look b held) (text_ops look b rest) tail))
              ∙ ap (λ (z : List Placed). placed o.op place ∷ (z ++ tail)) (sym (ops_append look b held rest))
              ∙ ap (λ (z : List Placed). (z ++ text_ops look b (held ++ rest)) ++ tail) (sym o.is);
        }
    one i rest tail m l f (None_held runs none) w ws ss later =
        let o = one_op look b (Operator around i.0, i.1) w in
        let place = place_in i.1 in
        record {
          tree = Run o.op place later.tree;
          shaped = (o.stands ∙ runs, later.shaped);
          flat_is =
              ap (λ (z : List Placed). placed o.op place ∷ z) later.flat_is
              ∙ ap (λ (z : Text). placed o.op place ∷ (text_ops look b (z ++ rest) ++ tail)) (sym (none (text b around)))
              ∙ ap (λ (z : List Placed). (z ++ text_ops look b (of_parts (text b around) (children i.0) (after i.0) ++ rest)) ++ tail) (sym o.is);
        }

    all : (is : List (Instr × InstrLocId)) (m : ℕ) → m ≤ n → Falls rank m (children_in is) → AreWritten look b (of_instrs (text b around) around is) → AreSound (of_instrs (text b around) around is)
        → (tail : Tree) → IsShaped tail → Grows (text_ops look b (of_instrs (text b around) around is)) (flat tail)
    all [] m l f w s tail shaped = record { tree = tail; shaped = shaped; flat_is = refl }
    all (i ∷ is) m l f w s tail shaped =
        let held = of_parts (text b around) (children i.0) (after i.0) in
        let rest = of_instrs (text b around) around is in
        let split = falls_split rank m (children i.0) (children_in is) f in
        one i rest (flat tail) m l split.0 (holds (length around) i.0 s.0.counted) w.0 (written_front look b held rest w.1) (sound_front held rest s.1)
        (all is m l split.1 (written_back look b held rest w.1) (sound_back held rest s.1) tail shaped)

  grows : (n : ℕ) → SeqGrows n
  grows zero around k p some below w s more leaf = absurd (omega (arith, below))
  grows (suc n) around k p some below w s more leaf =
      let q = is_rank k some in
      let env = k ∷ around in
      let inner = of_instrs (text b env) env q.0.instrs.items in
      let last : Text = (p, q.0.end) ∷ [] in
      let is : text b around k p ≡ inner ++ last = plain b around k p q.0 (record { rank = rank; is_rank = is_rank; ranked = some }) q.1 in
      let w2 = subst (AreWritten look b) is w in
      let s2 = subst AreSound is s in
      let closed = leaf q.0.end (written_back look b inner last w2).0 in
      let grown = all n (grows n) env q.0.instrs.items (rank k) (omega (arith, below)) q.2 (written_front look b inner last w2) (sound_front inner last s2) closed.tree closed.shaped in
      record {
        tree = grown.tree;
        shaped = grown.shaped;
        flat_is =
            grown.flat_is ∙ ap (λ (z : List Placed). text_ops look b inner ++ z) closed.flat_is ∙ sym (append_assoc (text_ops look b inner) (text_ops look b last) more)
            ∙ ap (λ (z : List Placed). z ++ more) (sym (ops_append look b inner last)) ∙ ap (λ (z : Text). text_ops look b z ++ more) (sym is);
      }

pub trees_nest : TreesAreNested → TextIsPlain → TreesAreSound → TreesNest
trees_nest nested plain sound look b entry t w =
    let n = nested b entry t in
    let grown = grows look b plain n.rank n.is_rank (suc (n.rank entry)) [] entry End n.ranked (omega arith) w (sound b entry t) [] (λ place v. ends look b plain n.rank n.is_rank End place refl v) in
    (grown.tree, record { shaped = grown.shaped; flat_is = sym (append-nil (text_ops look b (operators b entry))) ∙ sym grown.flat_is })
